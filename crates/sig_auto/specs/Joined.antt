-- What is behind each cell: where one goes on from it.
use Rattle.std.specs.Prelude.{◌≡◌, ℕ, ◌+◌, ◌==◌, ◌≤◌, ◌<◌, if◌then◌else◌, Bool, false, List, [], ◌∷◌, Option, Some, None, ⊤}
use Rattle.sig_auto.specs.declared.cell.Cell.{Cell}
use Rattle.sig_auto.specs.Cells.{cells_of_sequence}
use Rattle.sig_auto.specs.Ways.{entered, is_skipped}
use Rattle.sig_table.specs.Tables.{IsSequence}
use Rattle.sig_table.specs.Views.{SequenceView}

-- the place of the first cell behind this joint, where so many cells stand before those of the list; behind all cells, if there is none
abbrev pub seek : ℕ → List Cell → ℕ → ℕ
seek j [] k = k
seek j (c ∷ cs) k = if c.front == j then k else seek j cs (k + 1)

-- the joint that is the given one
abbrev pub is_joint : Option ℕ → ℕ → Bool
is_joint None k = false
is_joint (Some j) k = j == k

-- the joint that a cell leads to where it is entered: the one behind it if it may be skipped, and else that of its alternatives
abbrev pub joint_past : Cell → ℕ
joint_past c = if is_skipped c then c.behind else c.front

-- no joint is above this number
abbrev pub Bounded : ℕ → List Cell → Type 0
Bounded n [] = ⊤
Bounded n (c ∷ cs) = (c.front ≤ n) × (c.behind ≤ n) × Bounded n cs

-- the cells have each slot above the first n, in order
abbrev pub Lined : ℕ → List Cell → Type 0
Lined n [] = ⊤
Lined n (c ∷ cs) = (c.before ≡ n) × (0 < c.count) × Lined (n + c.count) cs

-- slot q is entered where the first of these cells is
abbrev pub entered_first : List Cell → ℕ → Bool
entered_first [] q = false
entered_first (c ∷ cs) q = entered (Some c.front) (c ∷ cs) q

-- the cells are those of the sequence
pub record Spells (cells : List Cell) (s : SequenceView) : Type 0 where
  pub sequence : IsSequence s
  pub same : cells ≡ cells_of_sequence s
