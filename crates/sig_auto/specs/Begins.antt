-- The bytes with which the words of a tree begin.
use Rattle.std.specs.Prelude.{◌≡◌, ◌⊎◌, ℕ, ◌-◌, ◌<◌, List, drop, length, slice_index, true}
use Rattle.sig_auto.specs.Classes.{InClass}
use Rattle.sig_auto.specs.Local.{is_first, is_nullable}
use Rattle.sig_auto.specs.Rows.{above, below}
use Rattle.sig_auto.specs.Trees.{Tree, Never, Empty, Slot, Gap, Then, Or}
use Rattle.sig_auto.specs.TreeSlots.{class_of}
use Rattle.sig_table.specs.Slots.{gap_slots}

-- some first slot of the tree takes the byte
abbrev pub Begins : Tree → ℕ → Type 0
Begins Never byte = ⊥
Begins Empty byte = ⊥
Begins (Slot c) byte = InClass c byte
Begins (Gap min max) byte = 0 < gap_slots min max
Begins (Then a b) byte = Begins a byte ⊎ ((is_nullable a ≡ true) × Begins b byte)
Begins (Or a b) byte = Begins a byte ⊎ Begins b byte

-- some word of as many bytes that is before the first bytes, or after the second, begins with the byte
abbrev pub BeginsOutside : List ℕ → List ℕ → ℕ → Type 0
BeginsOutside a b byte =
    ((byte < slice_index a 0) ⊎ (slice_index b 0 < byte))
    ⊎ (((byte ≡ slice_index a 0) × (0 < length (below (drop 1 a)))) ⊎ ((byte ≡ slice_index b 0) × (0 < length (above (drop 1 b)))))

-- slot q begins the tree and takes the byte
abbrev pub BeginsOn : Tree → ℕ → ℕ → ℕ → Type 0
BeginsOn tree before byte q = (is_first tree before q ≡ true) × InClass (class_of tree (q - before)) byte
