-- A file judged behind its header gives what the definitions of the two files say.
use Rattle.std.proofs.Common.{◌≡◌, ℕ, ◌+◌, List, [], ◌∷◌, sym, ap, ◌∙◌, refl, inl, inr, Result, Ok, Err}
use Rattle.std.specs.Result.{MatchResult}
use Rattle.std.proofs.lemmas.Bool.{cases_Bool}
use Rattle.sig_table.specs.declared.error.TableError.{TableError}
use Rattle.sig_table.specs.declared.error.TableFile.TheVariants.{Signatures, Priorities}
use Rattle.sig_table.specs.declared.puid.Puid.{Puid}
use Rattle.sig_table.specs.Files.{PairRowsView, file_judged, with_pair_row}
use Rattle.sig_table.specs.Judging.{◌>>=◌, IsFault, Judges, judged}
use Rattle.sig_table.specs.Loading.{empty_table, is_priority_header, pairs_from, pairs_of, signatures_of, with_pair, with_record}
use Rattle.sig_table.specs.Views.{TableView}
use Rattle.sig_table.proofs.FaultLemmas.{IsFault-map}
use Rattle.sig_table.proofs.JudgingLemmas.{answered}

signatures_judged : (file : List (List (List ℕ))) → file_judged Signatures with_record empty_table file ≡ signatures_of file
unfolding file_judged signatures_of
signatures_judged [] = refl
signatures_judged (header ∷ rows) = refl

pub signatures_told : (file : List (List (List ℕ))) (r : Result TableView TableError) → Judges r (file_judged Signatures with_record empty_table file)
    → MatchResult r (λ table. signatures_of file ≡ Ok table) (λ e. IsFault (signatures_of file) e)
signatures_told file (Ok table) h = sym (signatures_judged file) ∙ h
signatures_told file (Err e) h = IsFault-map _ _ e (λ is. sym (signatures_judged file) ∙ is) h

-- the pairs with their formats
abbrev with_formats : List Puid → Result (List (ℕ × ℕ)) TableError → Result PairRowsView TableError
with_formats formats r = r >>= (λ pairs. Ok (record { formats = formats; pairs = pairs }))

pairs_judged_from : (formats : List Puid) (n : ℕ) (pairs : List (ℕ × ℕ)) (rows : List (List (List ℕ)))
    → judged with_pair_row n (record { formats = formats; pairs = pairs }) rows ≡ with_formats formats (pairs_from formats n pairs rows)
unfolding judged
pairs_judged_from formats n pairs [] = refl
pairs_judged_from formats n pairs (fields ∷ later) = elim (answered (with_pair formats n pairs fields)) [
  | inl more ↦ rw more.1 (pairs_judged_from formats (n + 1) more.0 later)
  | inr e ↦ rw e.1 refl
]

pairs_judged : (formats : List Puid) (file : List (List (List ℕ)))
    → file_judged Priorities with_pair_row (record { formats = formats; pairs = [] }) file ≡ with_formats formats (pairs_of formats file)
unfolding file_judged pairs_of
pairs_judged formats [] = refl
pairs_judged formats (header ∷ rows) = elim (cases_Bool (is_priority_header header)) [
  | inl t ↦ rw t (pairs_judged_from formats 1 [] rows)
  | inr f ↦ rw f refl
]

with_formats-ok : (formats : List Puid) (r : Result (List (ℕ × ℕ)) TableError) (rows : PairRowsView) → with_formats formats r ≡ Ok rows
    → (rows.formats ≡ formats) × (r ≡ Ok rows.pairs)
with_formats-ok formats (Ok pairs) rows h =
    let same : record { formats = formats; pairs = pairs } ≡ rows = cc h in
    (sym (ap (λ (x : PairRowsView). x.formats) same), ap (λ (x : PairRowsView). Ok x.pairs) same)
with_formats-ok formats (Err e) rows h = absurd (cc h)

with_formats-err : (formats : List Puid) (r : Result (List (ℕ × ℕ)) TableError) (e : TableError) → with_formats formats r ≡ Err e → r ≡ Err e
with_formats-err formats (Ok pairs) e h = absurd (cc h)
with_formats-err formats (Err f) e h = let same : f ≡ e = cc h in ap Err same

module _ (formats : List Puid) (file : List (List (List ℕ))) (start : PairRowsView) (empty : start ≡ record { formats = formats; pairs = [] }) where
  started : file_judged Priorities with_pair_row start file ≡ with_formats formats (pairs_of formats file)
  started = ap (λ s. file_judged Priorities with_pair_row s file) empty ∙ pairs_judged formats file

  pub pairs_told : (rows : PairRowsView) → file_judged Priorities with_pair_row start file ≡ Ok rows
      → (rows.formats ≡ formats) × (pairs_of formats file ≡ Ok rows.pairs)
  pairs_told rows h = with_formats-ok formats (pairs_of formats file) rows (sym started ∙ h)

  pub pairs_refused : (e : TableError) → IsFault (file_judged Priorities with_pair_row start file) e → IsFault (pairs_of formats file) e
  pairs_refused e h = IsFault-map _ _ e (λ fault. with_formats-err formats (pairs_of formats file) e (sym started ∙ fault)) h
