-- Formats that some file leaves, and formats that no file leaves.
use Rattle.std.specs.Prelude.{⊤, ℕ, List, Contains}
use Rattle.sig_bits.specs.Bytes.{IsBytes}
use Rattle.sig_core.specs.Hits.{Left, formats_of}
use Rattle.sig_core.specs.declared.results.Hit.{Hit}
use Rattle.sig_table.specs.Views.{TableView}
use Rattle.sig_find.specs.declared.life.Fate.{Fate}
use Rattle.sig_find.specs.declared.life.Fate.TheVariants as fate

-- the file leaves the format
pub record LeavesFormat (table : TableView) (file : List ℕ) (format : ℕ) : Type 0 where
  pub left : List Hit
  pub is_left : Left table file left
  pub is_in : Contains (formats_of left) format

-- no file whatever leaves the format
abbrev pub IsNeverLeft : TableView → ℕ → Type 0
IsNeverLeft table format = (file : List ℕ) → IsBytes file → ¬ LeavesFormat table file format

-- some file leaves the format
pub record IsSometimesLeft (table : TableView) (format : ℕ) : Type 0 where
  pub file : List ℕ
  pub is_file : IsBytes file
  pub leaves : LeavesFormat table file format

-- some file leaves a format that is alive, and none one that is dead
abbrev pub DecidesFormat : TableView → ℕ → Fate → Type 0
DecidesFormat table f fate.Alive = IsSometimesLeft table f
DecidesFormat table f fate.Dead = IsNeverLeft table f
DecidesFormat table f fate.Unknown = ⊤
