-- What a gap or a bracket is refused for, by the lowest number.
use Rattle.std.proofs.Common.{◌≡◌, ◌≢◌, ◌⊎◌, inl, inr, ℕ, ◌+◌, ◌<◌, ◌≤◌, Bool, true, false, List, [], ◌∷◌, ◌++◌, length, Option, Some, None, refl, ◌∙◌, ap}
use Rattle.std.proofs.Common.{arith, nat_eq, nat_lt, length-append}
use Rattle.std.specs.Prelude.{◌&&◌}
use Rattle.std.specs.Ordering.{nat_cmp}
use Rattle.std.specs.Cmp.Lexicographic.{slice_cmp}
use Rattle.std.specs.declared.cmp.Ordering.{Ordering}
use Rattle.std.specs.declared.cmp.Ordering.TheVariants.{Less, Equal, Greater}
use Rattle.std.proofs.lemmas.Bool.Decides.{nat_tests}
use Rattle.sig_expr.specs.declared.error.ExprError.{ExprError}
use Rattle.sig_expr.specs.declared.error.ExprError.TheVariants as error
use Rattle.sig_expr.specs.declared.item.Atom.{Atom}
use Rattle.sig_expr.specs.declared.item.Atom.TheVariants as atom
use Rattle.sig_bits.specs.Bytes.{IsBytes}
use Rattle.sig_expr.specs.Ends.{word_of}
use Rattle.sig_expr.specs.Faults.{are_all, is_less, order_fault, range_fault, not_fault, gap_fault, fault_of}
use Rattle.sig_expr.specs.Words.{IsBefore}
use Rattle.sig_expr.specs.Profile.{GapSound, AtomSound}
use Rattle.sig_expr.specs.Spelling.{WordText, RangeText, NotText, AtomText}
use Rattle.sig_expr.proofs.Scans.{end_of_word, piece_of}
use Rattle.sig_expr.specs.FirstFaults.{refusal_number, GapHas, AreEnds, RangeHas, NotHas, AtomHas, IsRefused}
use Rattle.sig_expr.proofs.EndLemmas.{len_of_word, word_of_end}
use Rattle.sig_expr.proofs.ScanLemmas.{below, either}
use Rattle.sig_expr.proofs.FrontLemmas.{is_sign}
use Rattle.sig_expr.proofs.OrderLemmas.{leaves_word, no_word, no_word_all}
use Rattle.sig_expr.proofs.PairLemmas.{pair_small, word_bytes, range_sound, not_sound}

-- an end has no more bytes than its text
word_len : (a u : List ℕ) → WordText a u → length a ≤ length u
word_len [] u h = omega arith
word_len (b ∷ bs) u h =
    let rest = word_len bs h.1 h.4 in
    let pair : length h.0 ≡ 2 = ap length h.3.text in
    let whole : length u ≡ length h.0 + length h.1 = ap length h.2 ∙ length-append h.0 h.1 in
    omega arith

range_len : (opening a b t : List ℕ) → RangeText opening a b t → (length a ≤ length t) × (length b ≤ length t)
range_len opening a b t h =
    let first = word_len a h.first h.is_first in
    let second = word_len b h.second h.is_second in
    let one : length t ≡ length opening + length (h.first ++ (58 ∷ h.second ++ (93 ∷ []))) = ap length h.text ∙ length-append opening _ in
    let two : length (h.first ++ (58 ∷ h.second ++ (93 ∷ []))) ≡ length h.first + length (58 ∷ h.second ++ (93 ∷ [])) = length-append h.first _ in
    let three : length (58 ∷ h.second ++ (93 ∷ [])) ≡ length (58 ∷ h.second) + 1 = length-append (58 ∷ h.second) (93 ∷ []) in
    (omega arith, omega arith)

not_len : (a t : List ℕ) → NotText a t → length a ≤ length t
not_len a t h =
    let end = word_len a h.end h.is_end in
    let one : length t ≡ length (91 ∷ 33 ∷ h.end) + 1 = ap length h.text ∙ length-append (91 ∷ 33 ∷ h.end) (93 ∷ []) in
    omega arith

not_same : (x y : ℕ) → x ≢ y → nat_eq x y ≡ false
not_same x y h = by_test (nat_eq x y) refl
  where
    by_test : (b : Bool) → nat_eq x y ≡ b → b ≡ false
    by_test false e = refl
    by_test true e = absurd (h (is_sign x y e))

not_before : (o : Ordering) → (o ≡ Less → ⊥) → is_less o ≡ false
not_before Less h = absurd (h refl)
not_before Equal h = refl
not_before Greater h = refl

before : (o : Ordering) → ((o ≡ Less → ⊥) → ⊥) → o ≡ Less
before Less h = refl
before Equal h = absurd (h (λ e. absurd (cc)))
before Greater h = absurd (h (λ e. absurd (cc)))

same_test : (x : ℕ) → nat_eq x x ≡ true
same_test x = grind (arith, nat_tests)

is_same : (x y : ℕ) → (x ≢ y → ⊥) → nat_eq x y ≡ true
is_same x y h = by_test (nat_eq x y) refl
  where
    by_test : (b : Bool) → nat_eq x y ≡ b → b ≡ true
    by_test true e = refl
    by_test false e = absurd (h (λ s. let yes : nat_eq x y ≡ true = rw s (same_test y) in absurd (cc)))

not_over : (x : ℕ) → ((65535 < x) → ⊥) → nat_lt 65535 x ≡ false
not_over x h = by_test (nat_lt 65535 x) refl
  where
    by_test : (b : Bool) → nat_lt 65535 x ≡ b → b ≡ false
    by_test false e = refl
    by_test true e = absurd (h (grind (arith, nat_tests)))

-- what is read of ends of one length, of at most eight bytes
both_ends : (a b : List ℕ) → 0 < length a → 0 < length b → AreEnds a b
    → (nat_eq (end_of_word a).len (end_of_word b).len ≡ true) × (nat_lt 8 (end_of_word a).len ≡ false) × (word_of (end_of_word a) ≡ Some a)
    × (word_of (end_of_word b) ≡ Some b)
both_ends a b some some' h =
    let p = len_of_word a in
    let q = len_of_word b in
    let short' : length b ≤ 8 = omega (arith, h.0, h.1) in
    let same : nat_eq (end_of_word a).len (end_of_word b).len ≡ true = grind (arith, nat_tests, h.0, h.1) in
    let few : nat_lt 8 (end_of_word a).len ≡ false = grind (arith, nat_tests, h.1) in
    (same, few, word_of_end a some h.1, word_of_end b some' short')

-- the fault that is found in a gap that is refused
pub gap_refused : (least : ℕ) (max : Option ℕ) (n : ℕ) (f : ExprError) → IsRefused n (GapHas least max) f → gap_fault least max n ≡ Some f
unfolding gap_fault
gap_refused least None n (error.GapNumber m) h =
    let same : m ≡ n = cc (h.place) in
    let over : nat_lt 65535 least ≡ true = grind (arith, nat_tests, h.has) in
    rw (over, same) refl
gap_refused least (Some max) n (error.GapNumber m) h =
    let same : m ≡ n = cc (h.place) in
    by_least same (nat_lt 65535 least) refl
  where
    by_least : m ≡ n → (b : Bool) → nat_lt 65535 least ≡ b → gap_fault least (Some max) n ≡ Some (error.GapNumber m)
    by_least same true e = rw (e, same) refl
    by_least same false e =
        let over : nat_lt 65535 max ≡ true = grind (arith, nat_tests, h.has, e) in
        rw (e, over, same) refl
gap_refused least (Some max) n (error.GapEmpty m) h =
    let same : m ≡ n = cc (h.place) in
    let low : nat_lt 65535 least ≡ false = not_over least (λ o. absurd (omega (arith, h.lowest (error.GapNumber n) (inl o)))) in
    let none : max ≡ 0 = h.has in
    rw (low, none, same) refl
gap_refused least (Some max) n (error.GapOrder m) h =
    let same : m ≡ n = cc (h.place) in
    let low : nat_lt 65535 least ≡ false = not_over least (λ o. absurd (omega (arith, h.lowest (error.GapNumber n) (inl o)))) in
    let low' : nat_lt 65535 max ≡ false = not_over max (λ o. absurd (omega (arith, h.lowest (error.GapNumber n) (inr o)))) in
    let some : nat_eq max 0 ≡ false = not_same max 0 (λ z. absurd (omega (arith, h.lowest (error.GapEmpty n) z))) in
    let order : nat_lt max least ≡ true = grind (arith, nat_tests, h.has) in
    rw (low, low', some, order, same) refl
gap_refused least None n f h = absurd h.has
gap_refused least (Some max) n f h = absurd h.has

-- the same of a bracket with two ends
pub range_refused : (not : Bool) (a b : List ℕ) (n : ℕ) (f : ExprError) → 0 < length a → 0 < length b → length a ≤ 8192 → length b ≤ 8192 → IsBytes b
    → IsRefused n (RangeHas not a b) f → range_fault not (end_of_word a) (end_of_word b) n ≡ Some f
unfolding range_fault order_fault
range_refused not a b n (error.RangeLength m) some some' few few' bytes h =
    let same : m ≡ n = cc (h.place) in
    let p = len_of_word a in
    let q = len_of_word b in
    let differ : nat_eq (end_of_word a).len (end_of_word b).len ≡ false = not_same _ _ (λ e. h.has (omega arith)) in
    rw (differ, same) refl
range_refused not a b n (error.BracketTooLong m) some some' few few' bytes h =
    let same : m ≡ n = cc (h.place) in
    let p = len_of_word a in
    let q = len_of_word b in
    let agree : nat_eq (length a) (length b) ≡ true = is_same (length a) (length b) (λ d. absurd (omega (arith, h.lowest (error.RangeLength n) d))) in
    let one : nat_eq (end_of_word a).len (end_of_word b).len ≡ true = grind (arith, nat_tests) in
    let two : nat_lt 8 (end_of_word a).len ≡ true = grind (arith, nat_tests, h.has) in
    rw (one, two, same) refl
range_refused not a b n (error.RangeOrder m) some some' few few' bytes h =
    let same : m ≡ n = cc (h.place) in
    let ends = both_ends a b some some' h.has.0 in
    let order : is_less (slice_cmp nat_cmp a b) ≡ false = not_before _ h.has.1 in
    rw (ends.0, ends.1, ends.2, ends.3, order, same) refl
range_refused true a b n (error.ClassEmpty m) some some' few few' bytes h =
    let same : m ≡ n = cc (h.place) in
    let ends = both_ends a b some some' h.has.0 in
    let order : IsBefore a b = before _ (λ o. omega (arith, h.lowest (error.RangeOrder n) (h.has.0, o))) in
    let all = no_word_all a b h.has.0.0 bytes h.has.1 in
    rw (ends.0, ends.1, ends.2, ends.3, order, all, same) refl
range_refused true a b n f some some' few few' bytes h = absurd h.has
range_refused false a b n f some some' few few' bytes h = absurd h.has

-- the same of a bracket with one end
pub not_refused : (a : List ℕ) (n : ℕ) (f : ExprError) → length a ≤ 8192 → IsRefused n (NotHas a) f → not_fault (end_of_word a) n ≡ Some f
unfolding not_fault
not_refused a n (error.BracketTooLong m) few h =
    let same : m ≡ n = cc (h.place) in
    let p = len_of_word a in
    let over : nat_lt 8 (end_of_word a).len ≡ true = grind (arith, nat_tests, h.has) in
    rw (over, same) refl
not_refused a n f few h = absurd h.has

pub range_text_refused : (not : Bool) (opening a b t : List ℕ) (n : ℕ) (f : ExprError) → RangeText opening a b t → length t ≤ 8192
    → IsRefused n (RangeHas not a b) f → range_fault not (end_of_word a) (end_of_word b) n ≡ Some f
range_text_refused not opening a b t n f h short r =
    let lens = range_len opening a b t h in
    range_refused not a b n f h.some_first h.some_second (omega (arith, lens.0)) (omega (arith, lens.1)) (word_bytes b h.second h.is_second) r

pub not_text_refused : (a t : List ℕ) (n : ℕ) (f : ExprError) → NotText a t → length t ≤ 8192 → IsRefused n (NotHas a) f → not_fault (end_of_word a) n ≡ Some f
not_text_refused a t n f h short r = not_refused a n f (omega (arith, not_len a t h)) r

-- the same of a part
pub atom_refused : (p : Atom) (t : List ℕ) (n : ℕ) (f : ExprError) → AtomText p t → length t ≤ 8192 → IsRefused n (AtomHas p) f
    → fault_of (piece_of p) n ≡ Some f
atom_refused (atom.Byte b) t n f h short r = absurd r.has
atom_refused (atom.Range a b) t n f h short r = range_text_refused false (91 ∷ []) a b t n f h short r
atom_refused (atom.Not a) t n f h short r = not_text_refused a t n f h short r
atom_refused (atom.NotRange a b) t n f h short r = range_text_refused true (91 ∷ 33 ∷ []) a b t n f h short r

-- refused for one fault
abbrev pub Refused : ℕ → (ExprError → Type 0) → Type 0
Refused n Has = (f : ExprError) × IsRefused n Has f

number_lowest : (least : ℕ) (max : Option ℕ) (f : ExprError) → GapHas least max f → 3 ≤ refusal_number f
number_lowest least None error.TooLong h = absurd h
number_lowest least None (error.Syntax m) h = absurd h
number_lowest least (Some max) error.TooLong h = absurd h
number_lowest least (Some max) (error.Syntax m) h = absurd h
number_lowest least max f h = omega arith

empty_lowest : (least max : ℕ) → least ≤ 65535 → max ≤ 65535 → (f : ExprError) → GapHas least (Some max) f → 4 ≤ refusal_number f
empty_lowest least max p q error.TooLong h = absurd h
empty_lowest least max p q (error.Syntax m) h = absurd h
empty_lowest least max p q (error.GapNumber m) h = absurd (either h (λ o. omega arith) (λ o. omega arith))
empty_lowest least max p q f h = omega arith

order_lowest : (least max : ℕ) → least ≤ 65535 → max ≤ 65535 → 0 < max → (f : ExprError) → GapHas least (Some max) f → 5 ≤ refusal_number f
order_lowest least max p q r error.TooLong h = absurd h
order_lowest least max p q r (error.Syntax m) h = absurd h
order_lowest least max p q r (error.GapNumber m) h = absurd (either h (λ o. omega arith) (λ o. omega arith))
order_lowest least max p q r (error.GapEmpty m) h = absurd (omega arith)
order_lowest least max p q r f h = omega arith

-- a gap has no fault or is refused
pub judged_gap : (least : ℕ) (max : Option ℕ) (n : ℕ) → GapSound least max ⊎ Refused n (GapHas least max)
judged_gap least None n =
    either (below 65535 least) (λ o. inr (error.GapNumber n, record { place = refl; has = o; lowest = number_lowest least None })) (λ p. inl p)
judged_gap least (Some max) n =
    either (below 65535 least) (λ o. inr (error.GapNumber n, record { place = refl; has = inl o; lowest = number_lowest least (Some max) }))
    (λ p. either (below 65535 max) (λ o. inr (error.GapNumber n, record { place = refl; has = inr o; lowest = number_lowest least (Some max) }))
    (λ q. either (below 0 max) (λ r. either (below max least) (λ o. inr
    (error.GapOrder n, record { place = refl; has = o; lowest = order_lowest least max p q r }))
    (λ k. inl (k, q, r)))
    (λ z. inr (error.GapEmpty n, record { place = refl; has = omega arith; lowest = empty_lowest least max p q }))))

length_lowest : (not : Bool) (a b : List ℕ) → (AreEnds a b → ⊥) → (f : ExprError) → RangeHas not a b f → 9 ≤ refusal_number f
length_lowest not a b k (error.RangeOrder m) h = absurd (k h.0)
length_lowest not a b k (error.RangeLength m) h = omega arith
length_lowest not a b k (error.BracketTooLong m) h = omega arith
length_lowest true a b k (error.ClassEmpty m) h = absurd (k h.0)
length_lowest true a b k f h = absurd h
length_lowest false a b k f h = absurd h

long_lowest : (not : Bool) (a b : List ℕ) → (AreEnds a b → ⊥) → length a ≡ length b → (f : ExprError) → RangeHas not a b f → 10 ≤ refusal_number f
long_lowest not a b k e (error.RangeOrder m) h = absurd (k h.0)
long_lowest not a b k e (error.RangeLength m) h = absurd (h e)
long_lowest not a b k e (error.BracketTooLong m) h = omega arith
long_lowest true a b k e (error.ClassEmpty m) h = absurd (k h.0)
long_lowest true a b k e f h = absurd h
long_lowest false a b k e f h = absurd h

first_lowest : (not : Bool) (a b : List ℕ) (f : ExprError) → RangeHas not a b f → 6 ≤ refusal_number f
first_lowest not a b (error.RangeOrder m) h = omega arith
first_lowest not a b (error.RangeLength m) h = omega arith
first_lowest not a b (error.BracketTooLong m) h = omega arith
first_lowest true a b (error.ClassEmpty m) h = omega arith
first_lowest true a b f h = absurd h
first_lowest false a b f h = absurd h

class_lowest : (a b : List ℕ) → IsBefore a b → (f : ExprError) → RangeHas true a b f → 7 ≤ refusal_number f
class_lowest a b k (error.RangeOrder m) h = absurd (h.1 k)
class_lowest a b k (error.RangeLength m) h = omega arith
class_lowest a b k (error.BracketTooLong m) h = omega arith
class_lowest a b k (error.ClassEmpty m) h = omega arith
class_lowest a b k f h = absurd h

-- no fault of a bracket with two ends
record RangeQuiet (not : Bool) (a b : List ℕ) : Type 0 where
  ends : AreEnds a b
  order : IsBefore a b
  leaves : (not && (are_all 0 a && are_all 255 b)) ≡ false

judged_class : (not : Bool) (a b : List ℕ) (n : ℕ) → AreEnds a b → IsBefore a b → (x y : Bool) → are_all 0 a ≡ x → are_all 255 b ≡ y → RangeQuiet not a b
    ⊎ Refused n (RangeHas not a b)
judged_class false a b n h k x y p q = inl (record { ends = h; order = k; leaves = refl })
judged_class true a b n h k true true p q = inr (
  error.ClassEmpty n,
  record { place = refl; has = (h, λ w. no_word a b h.0 p q w); lowest = class_lowest a b k },
)
judged_class true a b n h k false y p q = inl (record { ends = h; order = k; leaves = rw p refl })
judged_class true a b n h k true false p q = inl (record { ends = h; order = k; leaves = rw (p, q) refl })

judged_order : (not : Bool) (a b : List ℕ) (n : ℕ) → AreEnds a b → (o : Ordering) → slice_cmp nat_cmp a b ≡ o → RangeQuiet not a b
    ⊎ Refused n (RangeHas not a b)
judged_order not a b n h Less e = judged_class not a b n h e (are_all 0 a) (are_all 255 b) refl refl
judged_order not a b n h Equal e = inr (error.RangeOrder n, record { place = refl; has = (h, λ k. absurd (cc)); lowest = first_lowest not a b })
judged_order not a b n h Greater e = inr (error.RangeOrder n, record { place = refl; has = (h, λ k. absurd (cc)); lowest = first_lowest not a b })

-- a bracket with two ends has no fault or is refused
judged_range : (not : Bool) (a b : List ℕ) (n : ℕ) → RangeQuiet not a b ⊎ Refused n (RangeHas not a b)
judged_range not a b n =
    either (below (length a) (length b)) (λ l. differ (λ e. omega arith))
    (λ g. either (below (length b) (length a)) (λ l. differ (λ e. omega arith))
    (λ g'. let same : length a ≡ length b = omega arith in
    either (below 8 (length a)) (λ o. inr (
      error.BracketTooLong n,
      record { place = refl; has = inl o; lowest = long_lowest not a b (λ k. omega (arith, k.1)) same },
    ))
    (λ short. judged_order not a b n (same, short) (slice_cmp nat_cmp a b) refl)))
  where
    differ : length a ≢ length b → RangeQuiet not a b ⊎ Refused n (RangeHas not a b)
    differ d = inr (error.RangeLength n, record { place = refl; has = d; lowest = length_lowest not a b (λ k. d k.0) })

not_lowest : (a : List ℕ) (f : ExprError) → NotHas a f → 10 ≤ refusal_number f
not_lowest a (error.BracketTooLong m) h = omega arith
not_lowest a f h = absurd h

-- a part has no fault or is refused
pub judged_atom : (p : Atom) (t : List ℕ) (n : ℕ) → AtomText p t → AtomSound p ⊎ Refused n (AtomHas p)
judged_atom (atom.Byte b) t n h = inl (pair_small b t h)
judged_atom (atom.Range a b) t n h = either (judged_range false a b n) (λ k. inl (range_sound _ a b t h k.ends.0 k.ends.1 k.order)) (λ r. inr r)
judged_atom (atom.Not a) t n h =
    either (below 8 (length a)) (λ o. inr (error.BracketTooLong n, record { place = refl; has = o; lowest = not_lowest a })) (λ k. inl (not_sound a t h k))
judged_atom (atom.NotRange a b) t n h =
    either (judged_range true a b n)
    (λ k.
    let sound = range_sound _ a b t h k.ends.0 k.ends.1 k.order in
    inl (sound, leaves_word a b k.ends.0 sound.second.bytes k.leaves))
    (λ r. inr r)
