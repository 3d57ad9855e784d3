-- The cells that a tree takes.
use Rattle.std.specs.Prelude.{ℕ, ◌+◌, ◌==◌, if◌then◌else◌, false, List, [], ◌∷◌, ◌++◌, Option}
use Rattle.sig_auto.specs.declared.class.Class.{Class}
use Rattle.sig_auto.specs.Classes.{any}
use Rattle.sig_auto.specs.Local.{loops}
use Rattle.sig_auto.specs.Trees.{Tree, Never, Empty, Slot, Gap, Then, Or, whole_tree}
use Rattle.sig_auto.specs.TreeSlots.{slots_of}
use Rattle.sig_auto.specs.declared.cell.Cell.{Cell}
use Rattle.sig_table.specs.Slots.{gap_slots}
use Rattle.sig_table.specs.Views.{SequenceView}

-- how many cells it takes: one for a slot, and one for a gap that has slots
abbrev pub cells_in : Tree → ℕ
cells_in Never = 0
cells_in Empty = 0
cells_in (Slot c) = 1
cells_in (Gap min max) = if gap_slots min max == 0 then 0 else 1
cells_in (Then a b) = cells_in a + cells_in b
cells_in (Or a b) = cells_in a + cells_in b

-- the cell of a slot, before which there are so many, between two joints
abbrev pub slot_cell : Class → ℕ → ℕ → ℕ → Cell
slot_cell c n front behind = record { class = c; before = n; count = 1; least = 1; endless = false; front = front; behind = behind }

-- the cell of a gap
abbrev pub gap_cell : ℕ → Option ℕ → ℕ → ℕ → ℕ → Cell
gap_cell min max n front behind = record { class = any; before = n; count = gap_slots min max; least = min; endless = loops max; front = front; behind = behind }

-- the joint between two parts, which is that before them or behind them where one has no cell
abbrev pub middle : ℕ → ℕ → ℕ → ℕ → ℕ → ℕ
middle front behind i j k = if k == 0 then behind else (if j == 0 then front else i + j)

-- the cells of a tree between two joints, where so many cells and slots stand before it
abbrev pub cells_of : Tree → ℕ → ℕ → ℕ → ℕ → List Cell
cells_of Never i n front behind = []
cells_of Empty i n front behind = []
cells_of (Slot c) i n front behind = slot_cell c n front behind ∷ []
cells_of (Gap min max) i n front behind = if gap_slots min max == 0 then [] else gap_cell min max n front behind ∷ []
cells_of (Then a b) i n front behind = cells_of a i n front (middle front behind i (cells_in a) (cells_in b)) ++ cells_of b (i + cells_in a) (n + slots_of a) (middle front behind i (cells_in a) (cells_in b)) behind
cells_of (Or a b) i n front behind = cells_of a i n front behind ++ cells_of b (i + cells_in a) (n + slots_of a) front behind

-- the cells of a sequence
abbrev pub cells_of_sequence : SequenceView → List Cell
cells_of_sequence s = cells_of (whole_tree s) 0 0 0 (cells_in (whole_tree s))
