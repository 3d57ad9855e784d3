-- What refuses a file is told of that file.
use Rattle.std.proofs.Common.{◌≡◌, ℕ, ◌+◌, ◌&&◌, ◌==◌, ◌||◌, Bool, true, false, not, nat_eq, nat_lt, nat_le, List, [], ◌∷◌, ◌++◌, length, refl, inl, inr}
use Rattle.std.proofs.Common.{Option, Some, None, IfSome, Result, Ok, Err}
use Rattle.std.specs.Prelude.{codes, ⊤}
use Rattle.std.specs.Bool.{OnFalse}
use Rattle.std.specs.List.{position_or_len}
use Rattle.std.specs.Option.{ok_or}
use Rattle.std.proofs.lemmas.Bool.{cases_Bool}
use Rattle.sig_expr.specs.declared.item.Item.{Item}
use Rattle.sig_expr.specs.declared.error.ExprError.{ExprError}
use Rattle.sig_expr.specs.Texts.{expr_of}
use Rattle.sig_table.specs.declared.error.TableError.{TableError}
use Rattle.sig_table.specs.declared.error.TableError.TheVariants as error
use Rattle.sig_table.specs.declared.error.TableFile.TheVariants.{Signatures, Priorities}
use Rattle.sig_table.specs.declared.position.Position.TheVariants as position
use Rattle.sig_table.specs.declared.puid.Puid.{Puid}
use Rattle.sig_table.specs.declared.row.Row.{Row}
use Rattle.sig_table.specs.Views.{SignatureView, TableView}
use Rattle.sig_table.specs.Loading.{empty_table, fault_at, fault_in, index_in, is_full, is_listed, is_of_signatures, is_priority_header, is_signature_header}
use Rattle.sig_table.specs.Loading.{pair_fault, pair_of, pair_of_two, pair_with, pairs_from, pairs_of, signature_in, signatures_of, table_from, with_pair}
use Rattle.sig_table.specs.Loading.{with_record, with_row}
use Rattle.sig_table.specs.Ranking.{is_above}
use Rattle.sig_table.specs.Numbers.{positive_of}
use Rattle.sig_table.specs.Puids.{puid_eq, puid_of}
use Rattle.sig_table.specs.Judging.{judged, unless, ◌>>=◌, IsFault, is_judged, is_memory, is_read}
use Rattle.sig_table.specs.Rows.{is_word, items_in, offset_of, offsets_of, position_of, row_of, row_with, text_at, up_to}
use Rattle.sig_table.specs.Slots.{slot_count}

-- what refuses is of the signature file, or is not
abbrev pub IsOf : {A : Type 0} → Bool → Result A TableError → Type 0
IsOf side (Ok x) = ⊤
IsOf side (Err e) = is_of_signatures e ≡ side

-- what refuses is of the signature file
abbrev pub IsOfSignatures : {A : Type 0} → Result A TableError → Type 0
IsOfSignatures r = IsOf true r

module _ (side : Bool) where
  bind-side : {A B : Type 0} (r : Result A TableError) (f : A → Result B TableError) → IsOf side r → ((x : A) → IsOf side (f x)) → IsOf side (r >>= f)
  bind-side (Ok x) f first later = later x
  bind-side (Err e) f first later = first

  ok_or-side : {A : Type 0} (o : Option A) (e : TableError) → is_of_signatures e ≡ side → IsOf side (ok_or o e)
  ok_or-side None e h = h
  ok_or-side (Some x) e h = tt

  unless-side : {A : Type 0} (o : Option TableError) (rest : Result A TableError) → IfSome o (λ e. is_of_signatures e ≡ side) → IsOf side rest
      → IsOf side (unless o rest)
  unless-side None rest fault later = later
  unless-side (Some e) rest fault later = fault

-- ---- the signature file

items_in-of : (n : ℕ) (r : Result (List Item) ExprError) → IsOfSignatures (items_in n r)
items_in-of n (Ok items) = tt
items_in-of n (Err e) = refl

offsets_of-of : (n : ℕ) (offset max : List ℕ) → IsOfSignatures (offsets_of n offset max)
offsets_of-of n offset max = ok_or-side true (up_to (offset_of offset) max) (error.Offset n) refl

position_of-of : (n : ℕ) (word offset max : List ℕ) → IsOfSignatures (position_of n word offset max)
unfolding position_of
position_of-of n word offset max = elim (cases_Bool (is_word word (codes "BOF"))) [
  | inl t ↦ rw t (bind-side true (offsets_of n offset max) (λ p. Ok (position.Bof p.0 p.1)) (offsets_of-of n offset max) (λ p. tt))
  | inr f ↦ elim (cases_Bool (is_word word (codes "EOF"))) [
    | inl t ↦ rw (f, t) (bind-side true (offsets_of n offset max) (λ p. Ok (position.Eof p.0 p.1)) (offsets_of-of n offset max) (λ p. tt))
    | inr g ↦ elim (cases_Bool (is_word word (codes "Variable"))) [
      | inl t ↦ elim (cases_Bool ((length offset == 0) && (length max == 0))) [
        | inl empty ↦ rw (f, g, t, empty) tt
        | inr some ↦ rw (f, g, t, some) refl
      ]
      | inr other ↦ rw (f, g, other) refl
    ]
  ]
]

row_with-of : (n : ℕ) (puid number word offset max expression : List ℕ) → IsOfSignatures (row_with n puid number word offset max expression)
row_with-of n puid number word offset max expression =
    bind-side true (ok_or (puid_of puid) (error.Puid Signatures n)) _ (ok_or-side true (puid_of puid) (error.Puid Signatures n) refl) (λ p.
    bind-side true (ok_or (positive_of number) (error.SignatureNumber n)) _ (ok_or-side true (positive_of number) (error.SignatureNumber n) refl) (λ k.
    bind-side true (position_of n word offset max) _ (position_of-of n word offset max) (λ place.
    bind-side true (items_in n (expr_of expression)) _ (items_in-of n (expr_of expression)) (λ items. tt))))

row_of-of : (n : ℕ) (fields : List (List ℕ)) → IsOfSignatures (row_of n fields)
unfolding row_of
row_of-of n fields = elim (cases_Bool (length fields == 6)) [
  | inl t ↦ rw t (row_with-of n (text_at fields 0) (text_at fields 1) (text_at fields 2) (text_at fields 3) (text_at fields 4) (text_at fields 5))
  | inr f ↦ rw f refl
]

-- a fault of a row is one of the signature file
fault_at-of : (o : Option SignatureView) (t : TableView) (n : ℕ) (row : Row) → IfSome (fault_at o t n row) (λ e. is_of_signatures e ≡ true)
fault_at-of None t n row = elim (cases_Bool (nat_lt 65535 (slot_count row.sequence))) [
  | inl many ↦ rw many refl
  | inr few ↦ elim (cases_Bool (is_full t row.puid)) [
    | inl full ↦ rw (few, full) refl
    | inr free ↦ rw (few, free) tt
  ]
]
fault_at-of (Some s) t n row = elim (cases_Bool (position_or_len (puid_eq row.puid) t.formats == s.format)) [
  | inl same ↦ elim (cases_Bool (nat_le 8 (length s.sequences))) [
    | inl full ↦ rw (same, full) refl
    | inr room ↦ elim (cases_Bool (nat_lt 65535 (slot_count row.sequence))) [
      | inl many ↦ rw (same, room, many) refl
      | inr few ↦ rw (same, room, few) tt
    ]
  ]
  | inr other ↦ rw other refl
]

fault_in-of : (t : TableView) (n : ℕ) (row : Row) → IfSome (fault_in t n row) (λ e. is_of_signatures e ≡ true)
unfolding fault_in
fault_in-of t n row = fault_at-of (signature_in t.signatures row.number) t n row

table_from-of : (n : ℕ) (t : TableView) (records : List (List (List ℕ))) → IsOfSignatures (table_from n t records)
unfolding judged with_record
table_from-of n t [] = tt
table_from-of n t (fields ∷ later) =
    bind-side true (with_record n t fields) (λ more. table_from (n + 1) more later)
    (bind-side true (row_of n fields) _ (row_of-of n fields) (λ row. unless-side true (fault_in t n row) (Ok (with_row t row)) (fault_in-of t n row) tt))
    (λ more. table_from-of (n + 1) more later)

pub signatures_of-of : (file : List (List (List ℕ))) → IsOfSignatures (signatures_of file)
unfolding signatures_of
signatures_of-of [] = refl
signatures_of-of (header ∷ rows) = elim (cases_Bool (is_signature_header header)) [
  | inl t ↦ rw t (table_from-of 1 empty_table rows)
  | inr f ↦ rw f refl
]

-- a fault that was judged is the one that is told
judged-told : {P : Type 0} (read memory : Bool) → not (read || memory) ≡ true → OnFalse memory P → P
judged-told true memory j h = absurd (cc j)
judged-told false true j h = absurd (cc j)
judged-told false false j h = h

-- what is judged of the signature file is of that file
pub is_judged-of : (file : List (List (List ℕ))) (e : TableError) → IsFault (signatures_of file) e → is_judged e ≡ true → is_of_signatures e ≡ true
is_judged-of file e fault judged =
    let is : signatures_of file ≡ Err e = judged-told (is_read e) (is_memory e) judged fault.exact in
    rw is at (signatures_of-of file)

-- ---- the priority file

pair_with-of : (formats : List Puid) (n : ℕ) (higher lower : List ℕ) → IsOf false (pair_with formats n higher lower)
pair_with-of formats n higher lower =
    bind-side false (ok_or (puid_of higher) (error.Puid Priorities n)) _ (ok_or-side false (puid_of higher) (error.Puid Priorities n) refl) (λ h.
    bind-side false (ok_or (puid_of lower) (error.Puid Priorities n)) _ (ok_or-side false (puid_of lower) (error.Puid Priorities n) refl) (λ l.
    bind-side false (ok_or (index_in formats h) (error.PriorityUnknown n)) _ (ok_or-side false (index_in formats h) (error.PriorityUnknown n) refl) (λ above.
    bind-side false (ok_or (index_in formats l) (error.PriorityUnknown n)) _ (ok_or-side false (index_in formats l) (error.PriorityUnknown n) refl) (λ below.
    two above below))))
  where
    two : (above below : ℕ) → IsOf false (pair_of_two n above below)
    two above below = elim (cases_Bool (nat_eq above below)) [
      | inl same ↦ rw same refl
      | inr other ↦ rw other tt
    ]

pair_of-of : (formats : List Puid) (n : ℕ) (fields : List (List ℕ)) → IsOf false (pair_of formats n fields)
unfolding pair_of
pair_of-of formats n fields = elim (cases_Bool (length fields == 2)) [
  | inl t ↦ rw t (pair_with-of formats n (text_at fields 0) (text_at fields 1))
  | inr f ↦ rw f refl
]

pair_fault-of : (pairs : List (ℕ × ℕ)) (n : ℕ) (pair : ℕ × ℕ) → IfSome (pair_fault pairs n pair) (λ e. is_of_signatures e ≡ false)
unfolding pair_fault
pair_fault-of pairs n pair = elim (cases_Bool (is_listed pairs pair)) [
  | inl twice ↦ rw twice refl
  | inr new ↦ elim (cases_Bool (is_above pairs pair.1 pair.0)) [
    | inl cycle ↦ rw (new, cycle) refl
    | inr none ↦ rw (new, none) tt
  ]
]

pairs_from-of : (formats : List Puid) (n : ℕ) (pairs : List (ℕ × ℕ)) (records : List (List (List ℕ))) → IsOf false (pairs_from formats n pairs records)
unfolding judged with_pair
pairs_from-of formats n pairs [] = tt
pairs_from-of formats n pairs (fields ∷ later) =
    bind-side false (with_pair formats n pairs fields) (λ more. pairs_from formats (n + 1) more later)
    (bind-side false (pair_of formats n fields) _ (pair_of-of formats n fields) (λ pair. unless-side false (pair_fault pairs n pair) (Ok (pairs ++ pair ∷ []))
    (pair_fault-of pairs n pair) tt))
    (λ more. pairs_from-of formats (n + 1) more later)

pairs_of-of : (formats : List Puid) (file : List (List (List ℕ))) → IsOf false (pairs_of formats file)
unfolding pairs_of
pairs_of-of formats [] = refl
pairs_of-of formats (header ∷ rows) = elim (cases_Bool (is_priority_header header)) [
  | inl t ↦ rw t (pairs_from-of formats 1 [] rows)
  | inr f ↦ rw f refl
]

-- what refuses the priority file is of no other file
pub is_later : (formats : List Puid) (file : List (List (List ℕ))) (e : TableError) → IsFault (pairs_of formats file) e → is_of_signatures e ≡ false
is_later formats file e fault = elim (cases_Bool (is_memory e)) [
  | inl memory ↦ rw (memory-is e memory) refl
  | inr judged ↦ (let is : pairs_of formats file ≡ Err e = rw judged at fault.exact in rw is at (pairs_of-of formats file))
]
  where
    memory-is : (e : TableError) → is_memory e ≡ true → e ≡ error.OutOfMemory
    memory-is error.OutOfMemory h = refl
    memory-is _ h = absurd (cc h)
