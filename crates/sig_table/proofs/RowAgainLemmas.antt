-- A row that was written is the row that is read.
use Rattle.std.proofs.Common.{◌≡◌, ℕ, ◌<◌, ◌≤◌, ◌^◌, true, false, nat_eq, nat_lt, List, [], ◌∷◌, ◌++◌, length, get_or, refl, inl, inr, arith, rules, tests}
use Rattle.std.proofs.Common.{Some, Ok}
use Rattle.std.specs.Fmt.{decimal}
use Rattle.std.specs.Str.{all_ascii_digits}
use Rattle.std.specs.Str.Parse.{digits_value}
use Rattle.std.proofs.lemmas.Bool.{cases_lt, ne_eqb}
use Rattle.std.proofs.lemmas.Fmt.{decimal_digit, decimal_nonempty, digits_decimal, digits_value-decimal, first_decimal, length-decimal-le}
use Rattle.csv.specs.Records.{field_at}
use Rattle.sig_expr.proofs.Exports.{expression_read}
use Rattle.sig_expr.specs.Canon.{canon}
use Rattle.sig_expr.specs.Profile.{IsExpression}
use Rattle.sig_expr.specs.Texts.{expr_of}
use Rattle.sig_expr.specs.declared.item.Item.{Item}
use Rattle.sig_table.proofs.NumberLemmas.{by_test}
use Rattle.sig_table.proofs.PuidLemmas.{positive_of-decimal, puid_of-puid_text}
use Rattle.sig_table.specs.Canonical.{position_fields, sequence_record}
use Rattle.sig_table.specs.Views.{SequenceView}
use Rattle.sig_table.specs.Numbers.{number_of}
use Rattle.sig_table.specs.Puids.{puid_text}
use Rattle.sig_table.specs.Rows.{offset_of, offsets_of, position_of, row_of}
use Rattle.sig_table.specs.Tables.{InOrder, IsNumber, IsSequence}
use Rattle.sig_table.specs.declared.position.Position.{Position}
use Rattle.sig_table.specs.declared.position.Position.TheVariants as position
use Rattle.sig_table.specs.declared.puid.Puid.{Puid}
use Rattle.sig_table.specs.declared.row.Row.{Row}

pub not_below : (a b : ℕ) → b ≤ a → nat_lt a b ≡ false
not_below a b h = search (rules, tests)

-- a positive number of at most five digits
number_of-positive : (n : ℕ) → 0 < n → n ≤ 65535 → number_of 5 (decimal n) ≡ Some n
unfolding number_of
number_of-positive n least h =
    let wide : n < 2 ^ 64 = omega arith in
    let some = decimal_nonempty n wide in
    let few = length-decimal-le 5 n (omega arith) (omega arith) wide in
    let empty : nat_eq (length (decimal n)) 0 ≡ false = ne_eqb (length (decimal n)) 0 (λ e. omega arith) in
    let long : nat_lt 5 (length (decimal n)) ≡ false = not_below 5 (length (decimal n)) few in
    let digits : all_ascii_digits (decimal n) ≡ true = digits_decimal by_test n wide in
    let value : digits_value 10 (decimal n) ≡ n = digits_value-decimal by_test n wide in
    let first = first_decimal n least wide in
    let front : nat_eq (get_or (decimal n) 0 0) 48 ≡ false = ne_eqb (get_or (decimal n) 0 0) 48 (λ e. omega arith) in
    rw (empty, long, front, digits, value) refl

number_of-zero : number_of 5 (decimal 0) ≡ Some 0
unfolding number_of
number_of-zero = rw (decimal_digit 0 (omega arith)) refl

pub number_of-decimal : (n : ℕ) → n ≤ 65535 → number_of 5 (decimal n) ≡ Some n
number_of-decimal n h = elim (cases_lt 0 n) [
  | inl some ↦ number_of-positive n some h
  | inr none ↦ let zero : n ≡ 0 = omega arith in rw zero number_of-zero
]

offset_of-decimal : (n : ℕ) → n ≤ 65535 → offset_of (decimal n) ≡ Some n
offset_of-decimal n h = rw (number_of-decimal n h, not_below 65535 n h) refl

-- the offsets of a place
pub offsets_of-decimal : (row min max : ℕ) → min ≤ max → max ≤ 65535 → offsets_of row (decimal min) (decimal max) ≡ Ok (min, max)
offsets_of-decimal row min max order h =
    let some = decimal_nonempty max (omega arith) in
    let empty : nat_eq (length (decimal max)) 0 ≡ false = ne_eqb (length (decimal max)) 0 (λ e. omega arith) in
    rw (number_of-decimal min (omega arith), not_below 65535 min (omega arith), empty, number_of-decimal max h, not_below 65535 max h, not_below max min order)
    refl

-- the canonical text is read as its items
pub expr_of-canon : (items : List Item) → IsExpression items → expr_of (canon items) ≡ Ok items
expr_of-canon items h = expression_read items h

-- the row of a sequence
abbrev pub row_for : Puid → ℕ → SequenceView → Row
row_for puid number sequence = record { puid = puid; number = number; sequence = sequence }

again : (row : ℕ) (puid : Puid) (number : ℕ) (p : Position) (items : List Item) → IsNumber puid.number → IsNumber number → InOrder p → IsExpression items
    → row_of row (puid_text puid ∷ decimal number ∷ (position_fields p ++ canon items ∷ [])) ≡ Ok (row_for puid number (record { position = p; items = items }))
unfolding row_of field_at position_of
again row puid number (position.Bof min max) items is_puid is_number order h =
    rw (
      puid_of-puid_text puid.registry puid.number is_puid.0 is_puid.1,
      positive_of-decimal number is_number.0 is_number.1,
      offsets_of-decimal row min max order.0 order.1,
      expr_of-canon items h,
    ) refl
again row puid number (position.Eof min max) items is_puid is_number order h =
    rw (
      puid_of-puid_text puid.registry puid.number is_puid.0 is_puid.1,
      positive_of-decimal number is_number.0 is_number.1,
      offsets_of-decimal row min max order.0 order.1,
      expr_of-canon items h,
    ) refl
again row puid number position.Variable items is_puid is_number order h =
    rw (puid_of-puid_text puid.registry puid.number is_puid.0 is_puid.1, positive_of-decimal number is_number.0 is_number.1, expr_of-canon items h) refl

-- the record of a sequence is read as its row
pub row_of-sequence_record : (row : ℕ) (puid : Puid) (number : ℕ) (s : SequenceView) → IsNumber puid.number → IsNumber number → IsSequence s
    → row_of row (sequence_record (puid_text puid) number s) ≡ Ok (row_for puid number s)
row_of-sequence_record row puid number s is_puid is_number h = again row puid number s.position s.items is_puid is_number h.offsets h.expression
