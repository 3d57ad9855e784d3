-- How many slots a sequence takes: the states of its automaton beside the start.
use Rattle.std.specs.Prelude.{ℕ, ◌+◌, ◌*◌, ◌==◌, nat_lt, if◌then◌else◌, List, [], ◌∷◌, length, sum_by, count_by, Option, Some, None}
use Rattle.sig_expr.specs.declared.item.Atom.{Atom}
use Rattle.sig_expr.specs.declared.item.Atom.TheVariants as atom
use Rattle.sig_expr.specs.declared.item.Item.{Item}
use Rattle.sig_expr.specs.declared.item.Item.TheVariants as item
use Rattle.sig_table.specs.declared.position.Position.{Position}
use Rattle.sig_table.specs.declared.position.Position.TheVariants as position
use Rattle.sig_table.specs.Views.{SequenceView}

-- the words before these bytes, in rows of one byte a place: a row for each place whose byte can be lowered
abbrev pub below_rows : List ℕ → ℕ
below_rows bytes = count_by (λ b. nat_lt 0 b) bytes

-- the words after them: a row for each place whose byte can be raised
abbrev pub above_rows : List ℕ → ℕ
above_rows bytes = count_by (λ b. nat_lt b 255) bytes

-- a row where some byte is between the two
abbrev pub inner_row : ℕ → ℕ → ℕ
inner_row x y = if nat_lt (x + 1) y then 1 else 0

-- the words from the first bytes to the second: behind the first place where they differ, those after the one and before the other, and both themselves
abbrev pub between_rows : List ℕ → List ℕ → ℕ
between_rows [] ys = 0
between_rows (x ∷ xs) [] = 0
between_rows (x ∷ xs) (y ∷ ys) = if x == y then between_rows xs ys else above_rows xs + below_rows ys + inner_row x y + 2

-- the slots of a bracket of so many bytes and rows
abbrev pub bracket_slots : ℕ → ℕ → ℕ
bracket_slots n rows = if n == 1 then 1 else n * rows

-- the slots of a part of an alternative
abbrev pub atom_slots : Atom → ℕ
atom_slots (atom.Byte b) = 1
atom_slots (atom.Range a b) = bracket_slots (length a) (between_rows a b)
atom_slots (atom.Not a) = bracket_slots (length a) (below_rows a + above_rows a)
atom_slots (atom.NotRange a b) = bracket_slots (length a) (below_rows a + above_rows b)

-- the slots of a gap: its greatest length, or one more than its least
abbrev pub gap_slots : ℕ → Option ℕ → ℕ
gap_slots min None = min + 1
gap_slots min (Some max) = max

-- the slots of an item
abbrev pub item_slots : Item → ℕ
item_slots (item.Byte b) = 1
item_slots item.Any = 1
item_slots (item.Gap min max) = gap_slots min max
item_slots (item.Alt alternatives) = sum_by (λ a. sum_by atom_slots a) alternatives
item_slots (item.Range a b) = atom_slots (atom.Range a b)
item_slots (item.Not a) = atom_slots (atom.Not a)
item_slots (item.NotRange a b) = atom_slots (atom.NotRange a b)

-- the slots of the gaps before and behind the expression
abbrev pub position_slots : Position → ℕ
position_slots (position.Bof min max) = max + 1
position_slots (position.Eof min max) = max + 1
position_slots position.Variable = 2

-- the slots of a sequence
unfoldable pub slot_count : SequenceView → ℕ
slot_count sequence = position_slots sequence.position + sum_by item_slots sequence.items
