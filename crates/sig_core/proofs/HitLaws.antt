-- The laws of hits, for proofs of other crates.
use Rattle.std.proofs.Common.{◌≡◌, ℕ, List}
use Rattle.sig_core.specs.declared.results.Hit.{Hit}
use Rattle.sig_core.specs.Hits.{Left}
use Rattle.sig_table.specs.Views.{TableView}
use Rattle.sig_core.proofs.LeftLemmas.{one_left}

-- what is left of a file is one list
pub left_is_one_list : (table : TableView) (file : List ℕ) (a b : List Hit) → Left table file a → Left table file b → a ≡ b
left_is_one_list = one_left
