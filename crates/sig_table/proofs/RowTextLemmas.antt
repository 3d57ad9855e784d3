-- A row is read of the texts of its parts, and of no others.
use Rattle.std.proofs.Common.{◌≡◌, ℕ, ◌≤◌, ◌&&◌, ◌==◌, true, nat_lt, List, [], ◌∷◌, length, sym, ap, ◌∙◌, refl, inl, inr, arith, rules, tests, Option, Some}
use Rattle.std.proofs.Common.{None, Ok}
use Rattle.std.specs.Prelude.{codes}
use Rattle.std.specs.Cmp.Lexicographic.{same_text}
use Rattle.std.specs.Fmt.{decimal}
use Rattle.std.specs.Option.{ok_or}
use Rattle.std.proofs.lemmas.Bool.{cases_Bool, eqb-true}
use Rattle.csv.specs.Records.{field_at}
use Rattle.sig_expr.specs.Texts.{expr_of}
use Rattle.sig_table.proofs.PuidLemmas.{decimal-number_of, number_of-positive, positive_of-decimal, puid_of-puid_text, puid_text-puid_of}
use Rattle.sig_table.proofs.RowAgainLemmas.{not_below, number_of-decimal, offsets_of-decimal}
use Rattle.sig_table.proofs.RowLemmas.{IsRow-row_of, bind-ok, items_in-ok, ok_or-ok}
use Rattle.sig_table.specs.declared.error.TableError.TheVariants as error
use Rattle.sig_table.specs.declared.error.TableFile.TheVariants.{Signatures}
use Rattle.sig_table.specs.declared.position.Position.{Position}
use Rattle.sig_table.specs.declared.position.Position.TheVariants as position
use Rattle.sig_table.specs.declared.row.Row.{Row}
use Rattle.sig_table.specs.Numbers.{number_of, positive_of}
use Rattle.sig_table.specs.Puids.{puid_of, puid_text}
use Rattle.sig_table.specs.Rows.{as_offset, in_order, is_word, items_in, offset_of, offsets_of, position_of, row_of, row_with, text_at, up_to}
use Rattle.sig_table.specs.RowTexts.{OffsetTexts, PositionTexts, RowText}
use Rattle.sig_table.specs.Tables.{InOrder}

no_text : (xs : List ℕ) → (length xs == 0) ≡ true → xs ≡ []
no_text [] h = refl
no_text (x ∷ xs) h = absurd (let none : length (x ∷ xs) ≡ 0 = eqb-true _ _ h in omega arith)

-- a number of at most five digits is one of at most nine
wider : (text : List ℕ) (n : ℕ) → number_of 5 text ≡ Some n → number_of 9 text ≡ Some n
unfolding number_of
wider text n h = elim (cases_Bool (length text == 0)) [
  | inl t ↦ absurd (cc (rw t at h))
  | inr some ↦ elim (cases_Bool (nat_lt 5 (length text))) [
    | inl t ↦ absurd (cc (rw (some, t) at h))
    | inr few ↦
        let short : length text ≤ 5 = search (rules, tests) in
        rw (some, not_below 9 (length text) (omega arith)) (rw (some, few) at h)
  ]
]

as_offset-same : (o : Option ℕ) (n : ℕ) → as_offset o ≡ Some n → o ≡ Some n
as_offset-same None n h = absurd (cc h)
as_offset-same (Some k) n h = elim (cases_Bool (nat_lt 65535 k)) [ inl t ↦ absurd (cc (rw t at h)) | inr f ↦ rw f at h ]

offset-text : (text : List ℕ) (n : ℕ) → offset_of text ≡ Some n → text ≡ decimal n
offset-text text n h = sym (decimal-number_of text n (wider text n (as_offset-same (number_of 5 text) n h)))

greatest-text : (min : ℕ) (o : Option ℕ) (greatest : List ℕ) (p : ℕ × ℕ) → ((n : ℕ) → o ≡ Some n → greatest ≡ decimal n) → in_order min o ≡ Some p → (min ≡ p.0)
    × (greatest ≡ decimal p.1)
greatest-text min None greatest p is h = absurd (cc h)
greatest-text min (Some max) greatest p is h = elim (cases_Bool (nat_lt max min)) [
  | inl t ↦ absurd (cc (rw t at h))
  | inr f ↦ let same : (min, max) ≡ p = cc (rw f at h) in (ap (λ q. q.0) same, is max refl ∙ ap (λ q. decimal q.1) same)
]

offsets-texts : (o : Option ℕ) (offset greatest : List ℕ) (p : ℕ × ℕ) → ((n : ℕ) → o ≡ Some n → offset ≡ decimal n) → up_to o greatest ≡ Some p
    → OffsetTexts p.0 p.1 offset greatest
offsets-texts None offset greatest p is h = absurd (cc h)
offsets-texts (Some min) offset greatest p is h = elim (cases_Bool (length greatest == 0)) [
  | inl t ↦
      let same : (min, min) ≡ p = cc (rw t at h) in
      (is min refl ∙ ap (λ q. decimal q.0) same, inr (no_text greatest t, sym (ap (λ q. q.0) same) ∙ ap (λ q. q.1) same))
  | inr f ↦
      let both = greatest-text min (offset_of greatest) greatest p (offset-text greatest) (rw f at h) in
      (is min refl ∙ ap (λ k. decimal k) both.0, inl both.1)
]

read-offsets : (row : ℕ) (offset greatest : List ℕ) (p : ℕ × ℕ) → offsets_of row offset greatest ≡ Ok p → OffsetTexts p.0 p.1 offset greatest
read-offsets row offset greatest p h = offsets-texts (offset_of offset) offset greatest p (offset-text offset)
    (ok_or-ok (up_to (offset_of offset) greatest) (error.Offset row) p h)

both_empty : (a b : List ℕ) → ((length a == 0) && (length b == 0)) ≡ true → (a ≡ []) × (b ≡ [])
both_empty a b h = elim (cases_Bool (length a == 0)) [
  | inl t ↦ (no_text a t, no_text b (rw t at h))
  | inr f ↦ absurd (cc (rw f at h))
]

pub read-position : (row : ℕ) (word offset greatest : List ℕ) (p : Position) → position_of row word offset greatest ≡ Ok p
    → PositionTexts p word offset greatest
unfolding position_of
read-position row word offset greatest p h = elim (cases_Bool (is_word word (codes "BOF"))) [
  | inl t ↦
      let read = bind-ok (offsets_of row offset greatest) (λ q. Ok (position.Bof q.0 q.1)) p (rw t at h) in
      let same : position.Bof read.0.0 read.0.1 ≡ p = cc read.2 in
      rw (← same) (same_text word (codes "BOF") (sym t), read-offsets row offset greatest read.0 read.1)
  | inr f ↦ elim (cases_Bool (is_word word (codes "EOF"))) [
    | inl t ↦
        let read = bind-ok (offsets_of row offset greatest) (λ q. Ok (position.Eof q.0 q.1)) p (rw (f, t) at h) in
        let same : position.Eof read.0.0 read.0.1 ≡ p = cc read.2 in
        rw (← same) (same_text word (codes "EOF") (sym t), read-offsets row offset greatest read.0 read.1)
    | inr g ↦ elim (cases_Bool (is_word word (codes "Variable"))) [
      | inl t ↦ elim (cases_Bool ((length offset == 0) && (length greatest == 0))) [
        | inl empty ↦
            let same : position.Variable ≡ p = cc (rw (f, g, t, empty) at h) in
            let none = both_empty offset greatest empty in
            rw (← same) (same_text word (codes "Variable") (sym t), none.0, none.1)
        | inr some ↦ absurd (cc (rw (f, g, t, some) at h))
      ]
      | inr other ↦ absurd (cc (rw (f, g, other) at h))
    ]
  ]
]

-- six fields
six : (fields : List (List ℕ)) → length fields ≡ 6 → fields ≡ text_at fields 0 ∷ text_at fields 1 ∷ text_at fields 2 ∷ text_at fields 3 ∷ text_at fields 4
    ∷ text_at fields 5 ∷ []
unfolding field_at
six [] h = absurd (omega arith)
six (a ∷ []) h = absurd (omega arith)
six (a ∷ b ∷ []) h = absurd (omega arith)
six (a ∷ b ∷ c ∷ []) h = absurd (omega arith)
six (a ∷ b ∷ c ∷ d ∷ []) h = absurd (omega arith)
six (a ∷ b ∷ c ∷ d ∷ e ∷ []) h = absurd (omega arith)
six (a ∷ b ∷ c ∷ d ∷ e ∷ f ∷ []) h = refl
six (a ∷ b ∷ c ∷ d ∷ e ∷ f ∷ g ∷ later) h = absurd (omega arith)

row_text : (n : ℕ) (fields : List (List ℕ)) (puid number word offset greatest expression : List ℕ) (row : Row)
    → fields ≡ puid ∷ number ∷ word ∷ offset ∷ greatest ∷ expression ∷ []
    → row_of n fields ≡ Ok row → row_with n puid number word offset greatest expression ≡ Ok row → RowText fields row
row_text n fields puid number word offset greatest expression row cut whole h =
    let is = IsRow-row_of n fields row whole in
    let p = bind-ok (ok_or (puid_of puid) (error.Puid Signatures n)) _ row h in
    let k = bind-ok (ok_or (positive_of number) (error.SignatureNumber n)) _ row p.2 in
    let place = bind-ok (position_of n word offset greatest) _ row k.2 in
    let items = bind-ok (items_in n (expr_of expression)) _ row place.2 in
    let same : record { puid = p.0; number = k.0; sequence = record { position = place.0; items = items.0 } } ≡ row = cc items.2 in
    let puid_is : puid_text p.0 ≡ puid = puid_text-puid_of puid (Some p.0) (sym (ok_or-ok _ _ _ p.1)) in
    let number_is : decimal k.0 ≡ number = decimal-number_of number k.0 (number_of-positive number k.0 (ok_or-ok _ _ _ k.1)) in
    record {
      word = word;
      offset = offset;
      greatest = greatest;
      expression = expression;
      cut = cut ∙ rw (← same, puid_is, number_is) refl;
      puid = is.puid;
      number = is.number;
      position = rw (← same) (read-position n word offset greatest place.0 place.1);
      offsets = is.offsets;
      items = items_in-ok n _ _ items.1 ∙ ap (λ (r : Row). Ok r.sequence.items) same;
    }

pub row_is_spelled : (n : ℕ) (fields : List (List ℕ)) (row : Row) → row_of n fields ≡ Ok row → RowText fields row
unfolding row_of
row_is_spelled n fields row h = elim (cases_Bool (length fields == 6)) [
  | inl t ↦ row_text n fields (text_at fields 0) (text_at fields 1) (text_at fields 2) (text_at fields 3) (text_at fields 4) (text_at fields 5) row
      (six fields (eqb-true _ _ t)) h (rw t at h)
  | inr f ↦ absurd (cc (rw f at h))
]

-- the offsets of a position are read of their texts
offsets_of-texts : (row min max : ℕ) (offset greatest : List ℕ) → OffsetTexts min max offset greatest → min ≤ max → max ≤ 65535
    → offsets_of row offset greatest ≡ Ok (min, max)
offsets_of-texts row min max offset greatest (is, inl whole) order most = rw (is, whole) (offsets_of-decimal row min max order most)
offsets_of-texts row min max offset greatest (is, inr one) order most =
    rw (is, one.0, ← one.1, number_of-decimal min (omega arith), not_below 65535 min (omega arith)) refl

pub position_of-texts : (row : ℕ) (p : Position) (word offset greatest : List ℕ) → PositionTexts p word offset greatest → InOrder p
    → position_of row word offset greatest ≡ Ok p
unfolding position_of
position_of-texts row (position.Bof min max) word offset greatest texts order =
    rw (texts.0, offsets_of-texts row min max offset greatest texts.1 order.0 order.1) refl
position_of-texts row (position.Eof min max) word offset greatest texts order =
    rw (texts.0, offsets_of-texts row min max offset greatest texts.1 order.0 order.1) refl
position_of-texts row position.Variable word offset greatest texts order = rw (texts.0, texts.1, texts.2) refl

pub row_is_read : (n : ℕ) (fields : List (List ℕ)) (row : Row) → RowText fields row → row_of n fields ≡ Ok row
unfolding row_of field_at
row_is_read n fields row text =
    rw (
      text.cut,
      puid_of-puid_text row.puid.registry row.puid.number text.puid.0 text.puid.1,
      positive_of-decimal row.number text.number.0 text.number.1,
      position_of-texts n row.sequence.position text.word text.offset text.greatest text.position text.offsets,
      text.items,
    ) refl
