use Rattle.std.proofs.Common.{◌≡◌, ◌∙◌, ℕ, List, [], ◌∷◌, None, Option, Some, Result, Ok, Err, ap, codes, refl, subst, sym}
use Rattle.std.specs.Borrow.{Bor}
use Rattle.csv.proofs.OnLiterals.{csv_on_literals}
use Rattle.csv.specs.Records.{field_at}
use Rattle.sig_table.specs.Judging.{◌>>=◌, Records, judged}
use Rattle.sig_table.specs.Loading.{pairs_of, records_of, signatures_of, table_of}
use Rattle.sig_table.specs.Views.{TableView}
use Rattle.sig_table.specs.declared.error.TableError.{TableError}
use Rattle.sig_table.specs.declared.puid.Puid.{Puid}
use Rattle.sig_engines.specs.Stores.{Files, HoldsPriorities, no_priorities}
use Rattle.sig_engines.proofs.laws.no_priorities_are_read.Goals as goal

-- a header, and no row
none_recorded : records_of no_priorities ≡ (codes "higher" ∷ codes "lower" ∷ []) ∷ []
unfolding csv_on_literals records_of
none_recorded = refl

none_paired : (formats : List Puid) → pairs_of formats (records_of no_priorities) ≡ Ok []
unfolding field_at judged pairs_of
none_paired formats = rw none_recorded refl

abbrev pairs_in : Result TableView TableError → List (ℕ × ℕ)
pairs_in (Ok table) = table.priorities
pairs_in (Err error) = []

none_read : (signatures : Records) (table : TableView) → table_of signatures (records_of no_priorities) ≡ Ok table → table.priorities ≡ []
unfolding table_of
none_read signatures table = go (signatures_of signatures)
  where
    go : (read : Result TableView TableError) → (read >>= λ t. pairs_of t.formats (records_of no_priorities) >>= λ pairs. Ok (record t { priorities = pairs }))
        ≡ Ok table → table.priorities ≡ []
    go (Ok t) is = sym (ap pairs_in (rw (none_paired t.formats) at is))
    go (Err error) is = cc

none_held : (files : Files) (name : Option (Bor (List ℕ))) (bytes : List ℕ) → name ≡ None → HoldsPriorities (Some files) name bytes → bytes ≡ no_priorities
none_held files name bytes none holds = subst (λ n. HoldsPriorities (Some files) n bytes) none holds

pub returns : goal.returns
returns c files paths table none is =
    let read = is.read in
    none_read (records_of read.0) table (ap (λ p. table_of (records_of read.0) (records_of p)) (sym (none_held files paths.priorities read.1 none read.3))
    ∙ read.4)
