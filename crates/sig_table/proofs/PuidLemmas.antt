-- A PUID is read from its own text, and from no other.
use Rattle.std.proofs.Common.{◌≡◌, ℕ, ◌<◌, ◌≤◌, ◌^◌, true, false, nat_eq, nat_lt, ◌&&◌, List, [], ◌∷◌, ◌++◌, drop, length, get_or, sym, ap, ◌∙◌, refl, inl, inr}
use Rattle.std.proofs.Common.{arith, rules, tests, Option, Some, None, eq-eqb, option_map}
use Rattle.std.specs.Prelude.{codes, IfSome}
use Rattle.std.specs.Fmt.{decimal}
use Rattle.std.specs.List.{starts_with}
use Rattle.std.specs.Str.{all_ascii_digits}
use Rattle.std.specs.Str.Parse.{digits_value}
use Rattle.std.proofs.lemmas.Bool.{cases_Bool, eqb-true, ne_eqb}
use Rattle.std.proofs.lemmas.Bool.Decides.{Decides-eqb}
use Rattle.std.proofs.lemmas.Fmt.{decimal-digits_value, decimal_digit, decimal_nonempty, digits_decimal, digits_value-decimal, first_decimal, length-decimal-le}
use Rattle.std.proofs.lemmas.Slice.Eq.{starts_is}
use Rattle.std.proofs.lemmas.Str.Parse.{digits_value_short}
use Rattle.sig_table.proofs.NumberLemmas.{by_test}
use Rattle.sig_table.specs.declared.puid.Puid.{Puid}
use Rattle.sig_table.specs.declared.puid.Registry.{Registry}
use Rattle.sig_table.specs.declared.puid.Registry.TheVariants.{Fmt, XFmt}
use Rattle.sig_table.specs.Numbers.{number_of, positive_of}
use Rattle.sig_table.specs.Puids.{numbered, puid_of, puid_text, registry_text}
use Rattle.sig_table.specs.Tables.{IsNumber}

alone : (g l : ℕ) → (nat_eq g 48 && nat_lt 1 l) ≡ false → 0 < l → g ≡ 48 → l ≡ 1
alone g l h some zero = elim (cases_Bool (nat_lt 1 l)) [
  | inl t ↦ absurd (cc (rw (eq-eqb g 48 zero, t) at h))
  | inr f ↦ (let few : l ≤ 1 = search (rules, tests) in omega arith)
]

-- what is said of a text of a number
record IsNumeral (text : List ℕ) (n : ℕ) : Type 0 where
  some : 0 < length text
  few : length text ≤ 9
  front : (nat_eq (get_or text 0 0) 48 && nat_lt 1 (length text)) ≡ false
  digits : all_ascii_digits text ≡ true
  value : digits_value 10 text ≡ n
  small : n < 1000000000

IsNumeral-number_of : (text : List ℕ) (n : ℕ) → number_of 9 text ≡ Some n → IsNumeral text n
unfolding number_of
IsNumeral-number_of text n h = elim (cases_Bool (nat_eq (length text) 0)) [
  | inl t ↦ absurd (cc (rw t at h))
  | inr some ↦ elim (cases_Bool (nat_lt 9 (length text))) [
    | inl t ↦ absurd (cc (rw (some, t) at h))
    | inr few ↦ elim (cases_Bool (nat_eq (get_or text 0 0) 48 && nat_lt 1 (length text))) [
      | inl t ↦ absurd (cc (rw (some, few, t) at h))
      | inr front ↦ elim (cases_Bool (all_ascii_digits text)) [
        | inl digits ↦
            let value : digits_value 10 text ≡ n = cc (rw (some, few, front, digits) at h) in
            let least : 0 < length text = search (rules, tests) in
            let most : length text ≤ 9 = search (rules, tests) in
            let small : digits_value 10 text < 1000000000 = digits_value_short by_test text 9 digits most in
            record { some = least; few = most; front = front; digits = digits; value = value; small = omega arith }
        | inr other ↦ absurd (cc (rw (some, few, front, other) at h))
      ]
    ]
  ]
]

-- what a number is read from is what is printed of it
pub decimal-number_of : (text : List ℕ) (n : ℕ) → number_of 9 text ≡ Some n → decimal n ≡ text
decimal-number_of text n h =
    let is = IsNumeral-number_of text n h in
    rw (← is.value) (decimal-digits_value by_test text is.digits is.some (alone (get_or text 0 0) (length text) is.front is.some)
    (let value = is.value in let small = is.small in omega arith))

pub number_of-positive : (text : List ℕ) (n : ℕ) → positive_of text ≡ Some n → number_of 9 text ≡ Some n
unfolding positive_of
number_of-positive text n h = elim (cases_Bool (nat_eq (get_or text 0 0) 48)) [
  | inl t ↦ absurd (cc (rw t at h))
  | inr f ↦ rw f at h
]

-- a number with no 0 in front is above 0, and has at most nine digits
pub IsNumber-positive_of : (text : List ℕ) (n : ℕ) → positive_of text ≡ Some n → IsNumber n
unfolding positive_of
IsNumber-positive_of text n h = elim (cases_Bool (nat_eq (get_or text 0 0) 48)) [
  | inl t ↦ absurd (cc (rw t at h))
  | inr f ↦
      let read : number_of 9 text ≡ Some n = rw f at h in
      let is = IsNumeral-number_of text n read in
      let printed = decimal-number_of text n read in
      elim (cases_Bool (nat_eq n 0)) [
        | inl zero ↦ absurd (let none : n ≡ 0 = eqb-true n 0 zero in let text_is : 48 ∷ [] ≡ text = sym (decimal_digit 0 (omega arith)) ∙ rw none at printed in
            cc (rw (← text_is) at f))
        | inr some ↦ (let least : 0 < n = search (rules, tests) in (least, is.small))
      ]
]

-- and the other way
number_of-decimal : (n : ℕ) → 0 < n → n < 1000000000 → number_of 9 (decimal n) ≡ Some n
unfolding number_of
number_of-decimal n least h =
    let wide : n < 2 ^ 64 = omega arith in
    let some = decimal_nonempty n wide in
    let few = length-decimal-le 9 n (omega arith) (omega arith) wide in
    let empty : nat_eq (length (decimal n)) 0 ≡ false = ne_eqb (length (decimal n)) 0 (λ e. omega arith) in
    let long : nat_lt 9 (length (decimal n)) ≡ false = search (rules, tests) in
    let digits : all_ascii_digits (decimal n) ≡ true = digits_decimal by_test n wide in
    let value : digits_value 10 (decimal n) ≡ n = digits_value-decimal by_test n wide in
    let first = first_decimal n least wide in
    let front : nat_eq (get_or (decimal n) 0 0) 48 ≡ false = ne_eqb (get_or (decimal n) 0 0) 48 (λ e. omega arith) in
    rw (empty, long, front, digits, value) refl

numbered-text : (r : Registry) (digits : List ℕ) (p : Puid) → numbered r digits ≡ Some p → puid_text p ≡ registry_text r ++ digits
numbered-text r digits p h = go (positive_of digits) refl h
  where
    go : (o : Option ℕ) → positive_of digits ≡ o → option_map (λ n. record { registry = r; number = n }) o ≡ Some p → puid_text p ≡ registry_text r ++ digits
    go None e h = absurd (cc h)
    go (Some n) e h = let same : record { registry = r; number = n } ≡ p = cc h in
        rw (← same) (ap (λ d. registry_text r ++ d) (decimal-number_of digits n (number_of-positive digits n e)))

pub positive_of-decimal : (n : ℕ) → 0 < n → n < 1000000000 → positive_of (decimal n) ≡ Some n
unfolding positive_of
positive_of-decimal n least h =
    let wide : n < 2 ^ 64 = omega arith in
    let first = first_decimal n least wide in
    let front : nat_eq (get_or (decimal n) 0 0) 48 ≡ false = ne_eqb (get_or (decimal n) 0 0) 48 (λ e. omega arith) in
    rw front (number_of-decimal n least h)

-- the text of what is read is the text that was read
pub puid_text-puid_of : (text : List ℕ) (o : Option Puid) → o ≡ puid_of text → IfSome o (λ p. puid_text p ≡ text)
unfolding puid_of
puid_text-puid_of text None h = tt
puid_text-puid_of text (Some p) h = elim (cases_Bool (starts_with nat_eq text (codes "fmt/"))) [
  | inl t ↦ numbered-text Fmt (drop 4 text) p (sym (rw t at h)) ∙ sym
      ((starts_is Decides-eqb text (codes "fmt/") (starts_with nat_eq text (codes "fmt/")) refl).0 t)
  | inr f ↦ elim (cases_Bool (starts_with nat_eq text (codes "x-fmt/"))) [
    | inl t ↦ numbered-text XFmt (drop 6 text) p (sym (rw (f, t) at h)) ∙ sym
        ((starts_is Decides-eqb text (codes "x-fmt/") (starts_with nat_eq text (codes "x-fmt/")) refl).0 t)
    | inr g ↦ absurd (cc (rw (f, g) at h))
  ]
]

-- and each text of a PUID is read as it
pub puid_of-puid_text : (r : Registry) (n : ℕ) → 0 < n → n < 1000000000 → puid_of (registry_text r ++ decimal n) ≡ Some (record { registry = r; number = n })
unfolding puid_of
puid_of-puid_text Fmt n least most = rw (positive_of-decimal n least most) refl
puid_of-puid_text XFmt n least most = rw (positive_of-decimal n least most) refl
