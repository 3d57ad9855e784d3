-- From the bytes in sight to the bytes at hand, and from the end of an entry to the first of all.
use Rattle.sig_scan.proofs.Common.{◌≡◌, ℕ, ◌+◌, ◌≤◌, ◌<◌, ◌⊎◌, inl, inr, List, length, min, take, drop, arith, Option, Some, None, cases_lt, length-take-le}
use Rattle.sig_scan.proofs.Common.{take-append-drop, unwrap_or, Item, EndsAt, IsLeastEnd, AreBounded, span, Lies, IsFirstOf}
use Rattle.sig_scan.proofs.LengthLemmas.{Lies-span}
use Rattle.sig_scan.proofs.LiesLemmas.{Lies-seen_both}

-- a word in the first bytes
pub Lies-taken : (items : List Item) (file : List ℕ) (n start end : ℕ) → n ≤ length file → Lies items (take n file) start end → Lies items file start end
Lies-taken items file n start end fits l = grind (arith, (Lies-seen_both items (take n file) (drop n file) start end).0 l, take-append-drop n file)

-- a word that ends in them
pub Lies-take : (items : List Item) (file : List ℕ) (n start end : ℕ) → n ≤ length file → end ≤ n → Lies items file start end
    → Lies items (take n file) start end
Lies-take items file n start end fits inside l =
    grind (arith, (Lies-seen_both items (take n file) (drop n file) start end).1, take-append-drop n file, length-take-le n file fits)

-- an end in the first bytes
EndsAt-taken : (items : List Item) (file : List ℕ) (n from until later end : ℕ) → n ≤ length file → until ≤ later → EndsAt items (take n file) from until end
    → EndsAt items file from later end
EndsAt-taken items file n from until later end fits more h =
    record { start = h.start; first = h.first; last = omega arith; lies = Lies-taken items file n h.start end fits h.lies }

-- an end that is in them
EndsAt-take : (items : List Item) (file : List ℕ) (n from until least end : ℕ) → n ≤ length file → end ≤ n → (h : EndsAt items file from until end)
    → h.start < least → EndsAt items (take n file) from least end
EndsAt-take items file n from until least end fits inside h below =
    record { start = h.start; first = h.first; last = below; lies = Lies-take items file n h.start end fits inside h.lies }

-- where the longest word is in sight, the least end in sight is that of all the bytes
pub IsLeastEnd-sight : (items : List Item) (file : List ℕ) (n from to reach : ℕ) (found : Option ℕ) → AreBounded items → span items ≤ reach
    → n ≤ length file → (length file ≤ n) ⊎ (to + reach ≤ n) → IsLeastEnd items (take n file) from to 0 found → IsLeastEnd items file from to 0 found
IsLeastEnd-sight items file n from to reach None bounded few fits sight none = λ end low h.
    none end low (EndsAt-take items file n from to to end fits (omega (arith, Lies-span items file h.start end bounded h.lies)) h h.last)
IsLeastEnd-sight items file n from to reach (Some e) bounded few fits sight (low, here, none) = (
  low,
  EndsAt-taken items file n from to to e fits (omega arith) here,
  λ end low before h.
      none end low before (EndsAt-take items file n from to to end fits (omega (arith, Lies-span items file h.start end bounded h.lies)) h h.last),
)

-- behind the least end of some entries, the words that begin before it have the first end of all
pub IsFirstOf-second : (items : List Item) (file : List ℕ) (from until limit to least e : ℕ) (found : Option ℕ) → to ≡ min until limit
    → least ≡ min until e → e ≤ length file → IsLeastEnd items file from to 0 (Some e) → IsLeastEnd items (take e file) from least 0 found
    → IsFirstOf items file from until limit (Some (unwrap_or found e))
IsFirstOf-second items file from until limit to least e None to_is least_is fits (_, h, _) none = (
  record { start = h.start; first = h.first; last = omega arith; lies = h.lies },
  λ end other. elim (cases_lt end e) [
    | inr order ↦ order
    | inl before ↦ absurd (none end (omega arith) (EndsAt-take items file e from until least end fits (omega arith) other (omega (arith, other.lies.in_order))))
  ],
)
IsFirstOf-second items file from until limit to least e (Some f) to_is least_is fits one (_, h, none) = (
  EndsAt-taken items file e from least until f fits (omega arith) h,
  λ end other. elim (cases_lt end f) [
    | inr order ↦ order
    | inl before ↦ (
        let inside : end < e = omega (arith, h.lies.within, length-take-le e file fits) in
        absurd (none end (omega arith) before (EndsAt-take items file e from until least end fits (omega arith) other (omega (arith, other.lies.in_order)))))
  ],
)
