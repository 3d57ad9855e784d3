-- What the first two hits that are left say of a file.
use Rattle.std.proofs.Common.{◌≡◌, ◌<◌, ◌≤◌, ℕ, List, All, length, subst, sym}
use Rattle.std.proofs.lemmas.List.Elements.{All-filter}
use Rattle.sig_core.specs.declared.results.Hit.{Hit}
use Rattle.sig_core.specs.Hits.{HitsAt, IsFirstHit, Left}
use Rattle.sig_core.proofs.Exports.{left_is_one_list}
use Rattle.sig_table.specs.Tables.{IsTable}
use Rattle.sig_table.specs.Views.{TableView}
use Rattle.sig_cert.specs.Deciding.{Ambiguous}
use Rattle.sig_cert.proofs.ProductLemmas.{signature_at}

-- of an ambiguous file every list of what is left has two members
pub two_are_left : (table : TableView) (file : List ℕ) (left : List Hit) → Left table file left → Ambiguous table file → 2 ≤ length left
two_are_left table file left is ambiguous =
    let same : ambiguous.left ≡ left = left_is_one_list table file ambiguous.left left ambiguous.is_left is in
    subst (λ (l : List Hit). 2 ≤ length l) same ambiguous.two

-- a format that is hit is one of the table
is_format : (table : TableView) (file : List ℕ) (format index : ℕ) → IsTable table → HitsAt table file format index → format < length table.formats
is_format table file format index is hit =
    subst (λ (f : ℕ). f < length table.formats) hit.of_format (signature_at table is index hit.signature hit.at).known

-- so is each format that is left
pub left_are_formats : (table : TableView) (file : List ℕ) (left : List Hit) → IsTable table → Left table file left
    → All (λ hit. hit.format.0 < length table.formats) left
left_are_formats table file left is hits = λ k d within.
    let each : All (IsFirstHit table file) left = subst (All (IsFirstHit table file)) (sym hits.kept)
    (All-filter _ (IsFirstHit table file) hits.hits hits.all_hits.each) in
    is_format table file _ _ is (each k d within).hits
