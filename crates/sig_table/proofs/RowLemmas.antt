-- What holds of each row that is read.
use Rattle.std.proofs.Common.{◌≡◌, ℕ, ◌≤◌, ◌&&◌, ◌==◌, nat_eq, nat_lt, List, drop, length, refl, inl, inr, arith, rules, tests, Option, Some, None, Result, Ok}
use Rattle.std.proofs.Common.{Err}
use Rattle.std.specs.Prelude.{codes}
use Rattle.std.specs.List.{starts_with}
use Rattle.std.specs.Option.{ok_or}
use Rattle.std.proofs.lemmas.Bool.{cases_Bool}
use Rattle.sig_expr.specs.declared.item.Item.{Item}
use Rattle.sig_expr.specs.Texts.{expr_of}
use Rattle.sig_expr.specs.declared.error.ExprError.{ExprError}
use Rattle.sig_expr.proofs.Exports.{read_expression}
use Rattle.sig_table.specs.declared.error.TableError.{TableError}
use Rattle.sig_table.specs.declared.error.TableError.TheVariants as error
use Rattle.sig_table.specs.declared.error.TableFile.TheVariants.{Signatures}
use Rattle.sig_table.specs.declared.position.Position.{Position}
use Rattle.sig_table.specs.declared.position.Position.TheVariants as position
use Rattle.sig_table.specs.declared.puid.Puid.{Puid}
use Rattle.sig_table.specs.declared.puid.Registry.{Registry}
use Rattle.sig_table.specs.declared.puid.Registry.TheVariants.{Fmt, XFmt}
use Rattle.sig_table.specs.declared.row.Row.{Row}
use Rattle.sig_table.specs.Numbers.{number_of, positive_of}
use Rattle.sig_table.specs.Puids.{numbered, puid_of}
use Rattle.sig_table.specs.Judging.{◌>>=◌}
use Rattle.sig_table.specs.Rows.{IsRow, as_offset, in_order, is_word, items_in, offset_of, offsets_of, position_of, row_of, row_with, text_at, up_to}
use Rattle.sig_table.specs.Tables.{InOrder, IsNumber}
use Rattle.sig_table.proofs.PuidLemmas.{IsNumber-positive_of}

-- what is read on was read
pub bind-ok : {A B : Type 0} (r : Result A TableError) (f : A → Result B TableError) (y : B) → r >>= f ≡ Ok y → (x : A) × (r ≡ Ok x) × (f x ≡ Ok y)
bind-ok (Ok x) f y h = (x, refl, h)
bind-ok (Err e) f y h = absurd (cc h)

pub ok_or-ok : {A : Type 0} (o : Option A) (e : TableError) (x : A) → ok_or o e ≡ Ok x → o ≡ Some x
ok_or-ok None e x h = absurd (cc h)
ok_or-ok (Some y) e x h = cc h

-- the number of a PUID
IsNumber-numbered : (r : Registry) (digits : List ℕ) (o : Option ℕ) (p : Puid) → positive_of digits ≡ o → numbered r digits ≡ Some p → IsNumber p.number
IsNumber-numbered r digits None p e h = absurd (cc (rw e at h))
IsNumber-numbered r digits (Some n) p e h =
    let is : record { registry = r; number = n } ≡ p = cc (rw e at h) in
    rw (← is) (IsNumber-positive_of digits n e)

pub IsNumber-puid_of : (text : List ℕ) (p : Puid) → puid_of text ≡ Some p → IsNumber p.number
unfolding puid_of
IsNumber-puid_of text p h = elim (cases_Bool (starts_with nat_eq text (codes "fmt/"))) [
  | inl t ↦ IsNumber-numbered Fmt (drop 4 text) _ p refl (rw t at h)
  | inr f ↦ elim (cases_Bool (starts_with nat_eq text (codes "x-fmt/"))) [
    | inl t ↦ IsNumber-numbered XFmt (drop 6 text) _ p refl (rw (f, t) at h)
    | inr g ↦ absurd (cc (rw (f, g) at h))
  ]
]

-- two offsets in order
abbrev Ordered : ℕ × ℕ → Type 0
Ordered p = (p.0 ≤ p.1) × (p.1 ≤ 65535)

as_offset-most : (o : Option ℕ) (n : ℕ) → as_offset o ≡ Some n → n ≤ 65535
as_offset-most None n h = absurd (cc h)
as_offset-most (Some k) n h = elim (cases_Bool (nat_lt 65535 k)) [
  | inl t ↦ absurd (cc (rw t at h))
  | inr f ↦ (let same : k ≡ n = cc (rw f at h) in let few : k ≤ 65535 = search (rules, tests) in omega arith)
]

in_order-ordered : (min : ℕ) (o : Option ℕ) (p : ℕ × ℕ) → ((n : ℕ) → o ≡ Some n → n ≤ 65535) → in_order min o ≡ Some p → Ordered p
in_order-ordered min None p most h = absurd (cc h)
in_order-ordered min (Some max) p most h = elim (cases_Bool (nat_lt max min)) [
  | inl t ↦ absurd (cc (rw t at h))
  | inr f ↦
      let same : (min, max) ≡ p = cc (rw f at h) in
      let le : min ≤ max = search (rules, tests) in
      rw (← same) (le, most max refl)
]

up_to-ordered : (o : Option ℕ) (max : List ℕ) (p : ℕ × ℕ) → ((n : ℕ) → o ≡ Some n → n ≤ 65535) → up_to o max ≡ Some p → Ordered p
up_to-ordered None max p most h = absurd (cc h)
up_to-ordered (Some min) max p most h = elim (cases_Bool (length max == 0)) [
  | inl t ↦ (let same : (min, min) ≡ p = cc (rw t at h) in let few = most min refl in rw (← same) (omega arith, few))
  | inr f ↦ in_order-ordered min (offset_of max) p (as_offset-most (number_of 5 max)) (rw f at h)
]

offsets_of-ordered : (row : ℕ) (offset max : List ℕ) (p : ℕ × ℕ) → offsets_of row offset max ≡ Ok p → Ordered p
offsets_of-ordered row offset max p h = up_to-ordered (offset_of offset) max p (as_offset-most (number_of 5 offset))
    (ok_or-ok (up_to (offset_of offset) max) (error.Offset row) p h)

-- the offsets of a place
pub InOrder-position_of : (row : ℕ) (word offset max : List ℕ) (place : Position) → position_of row word offset max ≡ Ok place → InOrder place
unfolding position_of
InOrder-position_of row word offset max place h = elim (cases_Bool (is_word word (codes "BOF"))) [
  | inl t ↦
      let read = bind-ok (offsets_of row offset max) (λ p. Ok (position.Bof p.0 p.1)) place (rw t at h) in
      let same : position.Bof read.0.0 read.0.1 ≡ place = cc read.2 in
      rw (← same) (offsets_of-ordered row offset max read.0 read.1)
  | inr f ↦ elim (cases_Bool (is_word word (codes "EOF"))) [
    | inl t ↦
        let read = bind-ok (offsets_of row offset max) (λ p. Ok (position.Eof p.0 p.1)) place (rw (f, t) at h) in
        let same : position.Eof read.0.0 read.0.1 ≡ place = cc read.2 in
        rw (← same) (offsets_of-ordered row offset max read.0 read.1)
    | inr g ↦ elim (cases_Bool (is_word word (codes "Variable"))) [
      | inl t ↦ elim (cases_Bool ((length offset == 0) && (length max == 0))) [
        | inl empty ↦ (let same : position.Variable ≡ place = cc (rw (f, g, t, empty) at h) in rw (← same) tt)
        | inr some ↦ absurd (cc (rw (f, g, t, some) at h))
      ]
      | inr other ↦ absurd (cc (rw (f, g, other) at h))
    ]
  ]
]

-- the expression
pub items_in-ok : (row : ℕ) (r : Result (List Item) ExprError) (items : List Item) → items_in row r ≡ Ok items → r ≡ Ok items
items_in-ok row (Ok e) items h = cc h
items_in-ok row (Err e) items h = absurd (cc h)

IsRow-row_with : (n : ℕ) (puid number word offset max expression : List ℕ) (row : Row) → row_with n puid number word offset max expression ≡ Ok row → IsRow row
IsRow-row_with n puid number word offset max expression row h =
    let p = bind-ok (ok_or (puid_of puid) (error.Puid Signatures n)) _ row h in
    let k = bind-ok (ok_or (positive_of number) (error.SignatureNumber n)) _ row p.2 in
    let place = bind-ok (position_of n word offset max) _ row k.2 in
    let items = bind-ok (items_in n (expr_of expression)) _ row place.2 in
    let same : record { puid = p.0; number = k.0; sequence = record { position = place.0; items = items.0 } } ≡ row = cc items.2 in
    rw (← same) (record {
      puid = IsNumber-puid_of puid p.0 (ok_or-ok _ _ _ p.1);
      number = IsNumber-positive_of number k.0 (ok_or-ok _ _ _ k.1);
      offsets = InOrder-position_of n word offset max place.0 place.1;
      expression = read_expression items.0 expression (items_in-ok n _ _ items.1);
    })

-- a row that is read
pub IsRow-row_of : (n : ℕ) (fields : List (List ℕ)) (row : Row) → row_of n fields ≡ Ok row → IsRow row
unfolding row_of
IsRow-row_of n fields row h = elim (cases_Bool (length fields == 6)) [
  | inl t ↦ IsRow-row_with n (text_at fields 0) (text_at fields 1) (text_at fields 2) (text_at fields 3) (text_at fields 4) (text_at fields 5) row (rw t at h)
  | inr f ↦ absurd (cc (rw f at h))
]
