-- The table with a record more, and the table of both files.
use Rattle.std.proofs.Common.{◌≡◌, ℕ, List, sym, ap, ◌∙◌, refl, Result, Ok, Err, None}
use Rattle.std.specs.Result.{MatchResult}
use Rattle.sig_table.proofs.FaultLemmas.{IsFault-map}
use Rattle.sig_table.proofs.JudgingLemmas.{unless-err}
use Rattle.sig_table.specs.declared.error.TableError.{TableError}
use Rattle.sig_table.specs.declared.row.Row.{Row}
use Rattle.sig_table.specs.Views.{TableView}
use Rattle.sig_table.specs.Judging.{IsFault, Judges, unless}
use Rattle.sig_table.specs.Loading.{fault_in, pairs_of, signatures_of, table_of, with_record, with_row}
use Rattle.sig_table.specs.Rows.{row_of}

module _ (n : ℕ) (t : TableView) (fields : List (List ℕ)) where
  pub with_record-more : (row : Row) → row_of n fields ≡ Ok row → fault_in t n row ≡ None → with_record n t fields ≡ Ok (with_row t row)
  unfolding with_record
  with_record-more row read fine = rw (read, fine) refl

  pub with_record-unread : (e : TableError) → row_of n fields ≡ Err e → with_record n t fields ≡ Err e
  unfolding with_record
  with_record-unread e read = rw read refl

  pub with_record-faulty : (row : Row) (e : TableError) → row_of n fields ≡ Ok row → unless (fault_in t n row) (Ok t) ≡ Err e → with_record n t fields ≡ Err e
  unfolding with_record
  with_record-faulty row e read fault = rw read (unless-err (fault_in t n row) t _ e fault)

-- a draft that judges the row is one with the record
pub with_record-added : (n : ℕ) (t : TableView) (fields : List (List ℕ)) (row : Row) (r : Result TableView TableError) → row_of n fields ≡ Ok row
    → MatchResult r (λ more. (fault_in t n row ≡ None) × (more ≡ with_row t row)) (λ e. IsFault (unless (fault_in t n row) (Ok t)) e)
    → Judges r (with_record n t fields)
with_record-added n t fields row (Ok more) read h = with_record-more n t fields row read h.0 ∙ ap (λ x. Ok x) (sym h.1)
with_record-added n t fields row (Err e) read h = IsFault-map _ _ e (λ f. with_record-faulty n t fields row e read f) h

-- the table, or the fault of either file
pub table_of-unread : (s p : List (List (List ℕ))) (e : TableError) → signatures_of s ≡ Err e → table_of s p ≡ Err e
unfolding table_of
table_of-unread s p e h = rw h refl

pub table_of-unranked : (s p : List (List (List ℕ))) (t : TableView) (e : TableError) → signatures_of s ≡ Ok t → pairs_of t.formats p ≡ Err e
    → table_of s p ≡ Err e
unfolding table_of
table_of-unranked s p t e read h = rw (read, h) refl

pub table_of-whole : (s p : List (List (List ℕ))) (t : TableView) (pairs : List (ℕ × ℕ)) → signatures_of s ≡ Ok t → pairs_of t.formats p ≡ Ok pairs
    → table_of s p ≡ Ok (record t { priorities = pairs })
unfolding table_of
table_of-whole s p t pairs read ranked = rw (read, ranked) refl
