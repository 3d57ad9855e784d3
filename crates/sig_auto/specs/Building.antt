-- Cells that are made one after the other.
use Rattle.std.specs.Prelude.{◌≡◌, ℕ, ◌+◌, List, ◌++◌, length, map}
use Rattle.sig_auto.specs.Trees.{Tree, Slot, rows_tree}
use Rattle.sig_auto.specs.TreeSlots.{slots_of}
use Rattle.sig_auto.specs.declared.build.Part.{Part}
use Rattle.sig_auto.specs.declared.build.Part.TheVariants.{One, Rows}
use Rattle.sig_auto.specs.declared.cell.Cell.{Cell}
use Rattle.sig_auto.specs.Cells.{cells_in, cells_of}

-- the cells of the tree between two joints were put behind the others, and there are now so many slots
pub record Puts (t : Tree) (n front behind : ℕ) (old new : List Cell) (slots : ℕ) : Type 0 where
  pub cells : new ≡ old ++ cells_of t (length old) n front behind
  pub count : slots ≡ n + slots_of t

-- the same, between the joint behind the others and one of its own
abbrev pub PutsBehind : Tree → ℕ → List Cell → List Cell → ℕ → Type 0
PutsBehind t n old new slots = Puts t n (length old) (length old + cells_in t) old new slots

-- the tree of a part of an alternative
abbrev pub part_tree : Part → Tree
part_tree (One c) = Slot c
part_tree (Rows rows) = rows_tree (map (λ v. v.items) rows.items)
