-- Bytes that cells take alike, and bytes on which they are entered.
use Rattle.std.specs.Prelude.{◌≡◌, ℕ, List, Option, Some, Contains, drop}
use Rattle.std.specs.List.{slice_get}
use Rattle.sig_auto.specs.declared.class.Class.{Class}
use Rattle.sig_auto.specs.declared.cell.Cell.{Cell}
use Rattle.sig_auto.specs.Classes.{InClass}
use Rattle.sig_auto.specs.Cuts.{SameSide}
use Rattle.sig_auto.specs.Taken.{class_in, taken_first}

-- each cell takes both bytes or neither
abbrev pub EachSide : List Cell → ℕ → ℕ → Type 0
EachSide cells a b = (k : ℕ) (c : Cell) → slice_get cells k ≡ Some c → SameSide c.class a b

-- it is this slot, and its class has the byte
abbrev pub SlotOn : Class → ℕ → ℕ → ℕ → Type 0
SlotOn class slot b q = (q ≡ slot) × InClass class b

-- slot q takes the byte, and is the first of a cell that is entered where the one at this place is
abbrev pub EnteredOn : List Cell → ℕ → ℕ → ℕ → Type 0
EnteredOn cells from b q = Contains (taken_first b (drop from cells)) q

-- slot q is this one, if there is one, and takes the byte
abbrev pub OwnOn : List Cell → Option ℕ → ℕ → ℕ → Type 0
OwnOn cells own b q = (own ≡ Some q) × InClass (class_in cells q) b
