-- The values of digits, and the texts of numbers.
use Rattle.std.proofs.Common.{◌≡◌, ℕ, ◌+◌, ◌-◌, ◌*◌, ◌<◌, ◌≤◌, true, List, take, length, get_or, ap, ◌∙◌, refl, arith, rules, length-take, tests, Some, None}
use Rattle.std.proofs.Common.{inl, inr}
use Rattle.std.proofs.lemmas.Bool.{cases_Bool}
use Rattle.sig_table.specs.Numbers.{digits_number}
use Rattle.std.specs.Int.{IsInRange}
use Rattle.std.specs.Char.{digit_value}
use Rattle.std.specs.Str.{all_ascii_digits}
use Rattle.std.specs.Str.Parse.{AllDigits, digits_value}
use Rattle.std.proofs.lemmas.List.{get_or-take}
use Rattle.std.proofs.lemmas.Int.Digits.{digits_value_more}
use Rattle.std.proofs.lemmas.Str.Parse.{IsNumeralModel, numerals_by_value, tells_by_index, tells_all_ascii_digits, digits_value_short}

-- each byte of the text is a digit
abbrev pub DigitEach : List ℕ → Type 0
DigitEach ds = (k : ℕ) → k < length ds → IsInRange 48 57 (get_or ds k 0)

by_index : IsNumeralModel DigitEach (digits_value 10)
by_index = numerals_by_value DigitEach tells_by_index

pub by_test : IsNumeralModel (λ ds. all_ascii_digits ds ≡ true) (digits_value 10)
by_test = numerals_by_value (λ ds. all_ascii_digits ds ≡ true) tells_all_ascii_digits

pub AllDigits-from_each : (ds : List ℕ) → DigitEach ds → AllDigits 10 ds
AllDigits-from_each ds h = by_index.to ds h

pub AllDigits-from_test : (ds : List ℕ) → all_ascii_digits ds ≡ true → AllDigits 10 ds
AllDigits-from_test ds h = by_test.to ds h

pub test-from_AllDigits : (ds : List ℕ) → AllDigits 10 ds → all_ascii_digits ds ≡ true
test-from_AllDigits ds h = by_test.from ds h

-- at most eight digits write a number below 10^8
pub digits_value-short : (ds : List ℕ) (i : ℕ) → i ≤ 8 → i ≤ length ds → ((k : ℕ) → k < i → IsInRange 48 57 (get_or ds k 0))
    → digits_value 10 (take i ds) < 100000000
digits_value-short ds i le within h =
    digits_value_short by_index (take i ds) 8 (λ k lt. let few : k < i = omega (arith, length-take {A = ℕ}) in rw (get_or-take) (h k few))
    (omega (arith, length-take {A = ℕ}))

-- one digit more
pub digits_value-step : (ds : List ℕ) (i : ℕ) → i < length ds → IsInRange 48 57 (get_or ds i 0)
    → digits_value 10 (take (i + 1) ds) ≡ digits_value 10 (take i ds) * 10 + (get_or ds i 0 - 48)
digits_value-step ds i lt digit =
    let value : digit_value (get_or ds i 0) ≡ get_or ds i 0 - 48 = search (rules, tests) in
    digits_value_more 10 ds i lt ∙ ap (λ d. digits_value 10 (take i ds) * 10 + d) value

-- a text with some other byte is no number
pub digits_number-none : (ds : List ℕ) → (AllDigits 10 ds → ⊥) → digits_number ds ≡ None
digits_number-none ds never = elim (cases_Bool (all_ascii_digits ds)) [
  | inl t ↦ absurd (never (AllDigits-from_test ds t))
  | inr f ↦ rw f refl
]

pub digits_number-some : (ds : List ℕ) → AllDigits 10 ds → digits_number ds ≡ Some (digits_value 10 ds)
digits_number-some ds all = rw (test-from_AllDigits ds all) refl
