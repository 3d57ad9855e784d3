-- Equal rows, one after another.
use Rattle.std.proofs.Common.{◌≡◌, ℕ, suc, zero, ◌+◌, ◌<◌, ◌≤◌, All, Bool, true, false, arith, cond, List, [], ◌∷◌, ◌++◌, None, Option, Some, add-one, ap}
use Rattle.std.proofs.Common.{length, map, refl, subst, sym, ◌∙◌}
use Rattle.std.proofs.lemmas.List.{map-append}
use Rattle.std.proofs.lemmas.List.Elements.{All-append, All-cons, All-head, All-nil, All-tail}
use Rattle.std.proofs.lemmas.List.Sums.{fold-append}
use Rattle.std.proofs.lemmas.Option.{same_Some}
use Rattle.std.specs.List.{list_any}
use Rattle.std.specs.Map.{lookup}
use Rattle.std.specs.Prelude.{fold, nat_eq, option_map, slice_get}
use Rattle.sig_table.specs.Views.{SequenceView, SignatureView, TableView}
use Rattle.sig_lint.specs.EqualRows.{RowsView, equal_rows, first_of, no_row, placed, rows_at, rows_before, pair_eq, with_first, with_row, with_told}
use Rattle.sig_lint.specs.declared.row_owners.Owner.{Owner}

-- the value of a key is that of its text
pub lookup-texts : {K X : Type 0} (text_of : K → List ℕ) (test : List ℕ → Bool) (es : List (K × X))
    → lookup (λ k. test (text_of k)) es ≡ lookup test (map (λ e. (text_of e.0, e.1)) es)
lookup-texts text_of test [] = refl
lookup-texts text_of test (e ∷ es) = ap (λ later. cond (test (text_of e.0)) (Some e.1) later) (lookup-texts text_of test es)

pub texts-more : {K X : Type 0} (text_of : K → List ℕ) (es more : List (K × X)) (k : K) (x : X) → more ≡ es ++ (k, x) ∷ []
    → map {B = List ℕ × X} (λ e. (text_of e.0, e.1)) more ≡ map {B = List ℕ × X} (λ e. (text_of e.0, e.1)) es ++ (text_of k, x) ∷ []
texts-more text_of es more k x is = ap (λ l. map (λ e. (text_of e.0, e.1)) l) is ∙ map-append (λ e. (text_of e.0, e.1)) es ((k, x) ∷ [])

-- no signature has no row
pub rows-none : (signatures : List SignatureView) → no_row ≡ fold with_row no_row (rows_before signatures 0)
unfolding rows_before
rows-none signatures = refl

-- one signature more has the rows of its sequences
pub rows-more : (signatures : List SignatureView) (n : ℕ) (rows more : RowsView) (owner : Owner) (sequences : List SequenceView)
    → rows ≡ fold with_row no_row (rows_before signatures n) → owner.signature.0 ≡ n
    → option_map (λ (s : SignatureView). s.format) (slice_get signatures n) ≡ Some owner.format.0
    → option_map (λ (s : SignatureView). s.sequences) (slice_get signatures n) ≡ Some sequences → more ≡ fold with_row rows (map (placed owner) sequences)
    → more ≡ fold with_row no_row (rows_before signatures (n + 1))
unfolding rows_before
rows-more signatures n rows more owner sequences are place format is step =
    step ∙ ap (λ r. fold with_row r (map (placed owner) sequences)) are ∙ sym
    (fold-append with_row no_row (rows_before signatures n) (map (placed owner) sequences))
    ∙ ap (λ l. fold with_row no_row (rows_before signatures n ++ l)) (go (slice_get signatures n) format is) ∙ ap
    (λ k. fold with_row no_row (rows_before signatures k)) (sym (add-one n))
  where
    go : (s : Option SignatureView) → option_map (λ (s : SignatureView). s.format) s ≡ Some owner.format.0
        → option_map (λ (s : SignatureView). s.sequences) s ≡ Some sequences → map (placed owner) sequences ≡ rows_at n s
    go None format is = cc
    go (Some s) format is =
        let one : s.format ≡ owner.format.0 = same_Some s.format owner.format.0 format in
        let two : s.sequences ≡ sequences = same_Some s.sequences sequences is in
        rw (one, two, ← place) refl

-- all signatures have all rows
pub rows-all : (table : TableView) (n : ℕ) (rows : RowsView) → length table.signatures ≡ n → rows ≡ fold with_row no_row (rows_before table.signatures n)
    → rows.found ≡ equal_rows table
unfolding equal_rows
rows-all table n rows all are = ap (λ (r : RowsView). r.found) are ∙ ap (λ k. (fold with_row no_row (rows_before table.signatures k)).found) (sym all)

-- ---- the signatures that are told are those of the table

-- the owner is one of the first signatures, and both of a pair are
abbrev IsOwner : ℕ → List ℕ × Owner → Type 0
IsOwner bound row = row.1.signature.0 < bound

abbrev pub ArePlaces : ℕ → ℕ × ℕ → Type 0
ArePlaces bound pair = (pair.0 < bound) × (pair.1 < bound)

record AreWithin (bound : ℕ) (rows : RowsView) : Type 0 where
  firsts : All (IsOwner bound) rows.firsts
  found : All (ArePlaces bound) rows.found

looked_up : (bound : ℕ) (test : List ℕ → Bool) (es : List (List ℕ × Owner)) (first : Owner) → All (IsOwner bound) es → lookup test es ≡ Some first
    → first.signature.0 < bound
looked_up bound test [] first all is = cc
looked_up bound test (e ∷ es) first all is = go (test e.0) (looked_up bound test es first (All-tail (IsOwner bound) e es all)) is
  where
    go : (b : Bool) → (lookup test es ≡ Some first → first.signature.0 < bound) → cond b (Some e.1) (lookup test es) ≡ Some first → first.signature.0 < bound
    go true later is = let same : e.1 ≡ first = same_Some e.1 first is in subst (λ (o : Owner). o.signature.0 < bound) same (All-head (IsOwner bound) e es all)
    go false later is = later is

told_within : (bound : ℕ) (found : List (ℕ × ℕ)) (owner first : Owner) → All (ArePlaces bound) found → owner.signature.0 < bound → first.signature.0 < bound
    → All (ArePlaces bound) (with_told found owner first)
told_within bound found owner first within mine its = go (nat_eq first.format.0 owner.format.0) (list_any (pair_eq pair) found)
  where
    pair : ℕ × ℕ
    pair = (owner.signature.0, first.signature.0)

    go : (b is_there : Bool) → All (ArePlaces bound) (cond b found (cond is_there found (found ++ pair ∷ [])))
    go true is_there = within
    go false true = within
    go false false = All-append (ArePlaces bound) found (pair ∷ []) within (All-cons (ArePlaces bound) pair [] (mine, its) (All-nil (ArePlaces bound)))

row_within : (bound : ℕ) (rows : RowsView) (row : List ℕ × Owner) → AreWithin bound rows → IsOwner bound row → AreWithin bound (with_row rows row)
unfolding with_row
row_within bound rows row within mine = go (first_of rows.firsts row.0) refl
  where
    go : (first : Option Owner) → first_of rows.firsts row.0 ≡ first → AreWithin bound (with_first rows row first)
    go None is = record {
      firsts = All-append (IsOwner bound) rows.firsts (row ∷ []) within.firsts
          (All-cons (IsOwner bound) row [] mine (All-nil (IsOwner bound)));
      found = within.found;
    }
    go (Some first) is = record {
      firsts = within.firsts;
      found =
          told_within bound rows.found row.1 first within.found mine (looked_up bound _ rows.firsts first within.firsts is);
    }

fold_within : (bound : ℕ) (more : List (List ℕ × Owner)) (rows : RowsView) → All (IsOwner bound) more → AreWithin bound rows
    → AreWithin bound (fold with_row rows more)
fold_within bound [] rows all within = within
fold_within bound (row ∷ more) rows all within = fold_within bound more (with_row rows row) (All-tail (IsOwner bound) row more all)
    (row_within bound rows row within (All-head (IsOwner bound) row more all))

owned_within : (bound : ℕ) (owner : Owner) (sequences : List SequenceView) → owner.signature.0 < bound → All (IsOwner bound) (map (placed owner) sequences)
owned_within bound owner [] mine = All-nil (IsOwner bound)
owned_within bound owner (s ∷ sequences) mine = All-cons (IsOwner bound) (placed owner s) (map (placed owner) sequences) mine
    (owned_within bound owner sequences mine)

at_within : (bound n : ℕ) (s : Option SignatureView) → n < bound → All (IsOwner bound) (rows_at n s)
at_within bound n None low = All-nil (IsOwner bound)
at_within bound n (Some s) low = owned_within bound (record { signature = record { 0 = n }; format = record { 0 = s.format } }) s.sequences low

before_within : (signatures : List SignatureView) (bound n : ℕ) → n ≤ bound → All (IsOwner bound) (rows_before signatures n)
unfolding rows_before
before_within signatures bound zero low = All-nil (IsOwner bound)
before_within signatures bound (suc n) low = All-append (IsOwner bound) (rows_before signatures n) (rows_at n (slice_get signatures n))
    (before_within signatures bound n (omega arith)) (at_within bound n (slice_get signatures n) (omega arith))

pub equal_within : (table : TableView) → All (ArePlaces (length table.signatures)) (equal_rows table)
unfolding equal_rows
equal_within table =
    let n = length table.signatures in
    let none : AreWithin n no_row = record { firsts = All-nil (IsOwner n); found = All-nil (ArePlaces n) } in
    let all : AreWithin n (fold with_row no_row (rows_before table.signatures n)) =
    fold_within n (rows_before table.signatures n) no_row (before_within table.signatures n n (omega arith)) none in
    all.found
