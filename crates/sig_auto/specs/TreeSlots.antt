-- The slots of a tree, numbered from 1 from left to right, and their classes.
use Rattle.std.specs.Prelude.{ℕ, ◌+◌, ◌-◌, ◌/◌, List, [], ◌∷◌, ◌++◌, get_or, replicate}
use Rattle.sig_auto.specs.declared.class.Class.{Class}
use Rattle.sig_auto.specs.Classes.{InClass, any}
use Rattle.sig_auto.specs.Trees.{Tree, Never, Empty, Slot, Gap, Then, Or}
use Rattle.sig_table.specs.Slots.{gap_slots}

-- how many slots a tree has
abbrev pub slots_of : Tree → ℕ
slots_of Never = 0
slots_of Empty = 0
slots_of (Slot c) = 1
slots_of (Gap min max) = gap_slots min max
slots_of (Then a b) = slots_of a + slots_of b
slots_of (Or a b) = slots_of a + slots_of b

-- the class of each slot, in order
abbrev pub classes_of : Tree → List Class
classes_of Never = []
classes_of Empty = []
classes_of (Slot c) = c ∷ []
classes_of (Gap min max) = replicate (gap_slots min max) any
classes_of (Then a b) = classes_of a ++ classes_of b
classes_of (Or a b) = classes_of a ++ classes_of b

-- the class of slot q
abbrev pub class_of : Tree → ℕ → Class
class_of tree q = get_or (classes_of tree) (q - 1) any

-- slot q takes the byte
abbrev pub Takes : Tree → ℕ → ℕ → Type 0
Takes tree q byte = InClass (class_of tree q) byte

-- how many bytes a set of states is long: a bit for the start, and one for each slot
abbrev pub set_len : Tree → ℕ
set_len tree = (slots_of tree + 8) / 8
