-- Files that leave two formats, and tables of which no file does.
use Rattle.std.specs.Prelude.{◌≡◌, ℕ, ◌<◌, ◌≤◌, List, ◌∷◌, length}
use Rattle.sig_bits.specs.Bytes.{IsBytes}
use Rattle.sig_core.specs.Hits.{Left}
use Rattle.sig_core.specs.declared.results.Hit.{Hit}
use Rattle.sig_table.specs.Views.{TableView}
use Rattle.sig_table.specs.declared.ids.FormatId.{FormatId}

-- at least two formats are left for the file
pub record Ambiguous (table : TableView) (file : List ℕ) : Type 0 where
  pub left : List Hit
  pub is_left : Left table file left
  pub two : 2 ≤ length left

-- no file whatever is ambiguous
abbrev pub Decided : TableView → Type 0
Decided table = (file : List ℕ) → IsBytes file → ¬ Ambiguous table file

-- both are formats of the table
abbrev pub AreFormats : TableView → FormatId × FormatId → Type 0
AreFormats table two = (two.0.0 < length table.formats) × (two.1.0 < length table.formats)

-- these are the first two formats left for the file, in table order
pub record AreFirstLeft (table : TableView) (file : List ℕ) (two : FormatId × FormatId) : Type 0 where
  pub first : Hit
  pub second : Hit
  pub more : List Hit
  pub is_left : Left table file (first ∷ second ∷ more)
  pub formats : two ≡ (first.format, second.format)
