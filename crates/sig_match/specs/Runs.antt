-- Runs of fixed bytes, and how long words can be.
use Rattle.std.specs.Prelude.{◌≡◌, ℕ, ◌≤◌, List, length, map, take}
use Rattle.sig_expr.specs.declared.item.Item.{Item}
use Rattle.sig_expr.specs.declared.item.Item.TheVariants as item

-- the items begin with these bytes
pub record IsRun (items : List Item) (run : List ℕ) : Type 0 where
  pub within : length run ≤ length items
  pub bytes : take (length run) items ≡ map item.Byte run

-- the word is this one
abbrev pub IsThis : List ℕ → List ℕ → Type 0
IsThis run w = w ≡ run

-- no word is longer
abbrev pub Bounds : (List ℕ → Type 0) → ℕ → Type 0
Bounds IsWord n = (w : List ℕ) → IsWord w → length w ≤ n
