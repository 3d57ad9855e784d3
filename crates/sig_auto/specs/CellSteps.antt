-- A step of a set of states, in the words of the cells.
use Rattle.std.specs.Prelude.{◌≡◌, ◌⊎◌, ◌↔◌, ℕ, ◌+◌, ◌*◌, ◌<◌, ◌≤◌, true, List, Some, drop, length}
use Rattle.std.specs.List.{slice_get}
use Rattle.sig_bits.specs.BitSets.{HasBit}
use Rattle.sig_auto.specs.declared.cell.Cell.{Cell}
use Rattle.sig_auto.specs.declared.joint.Joint.{Joint}
use Rattle.sig_auto.specs.declared.joint.Joints.{Joints}
use Rattle.sig_auto.specs.Behind.{slots_in}
use Rattle.sig_auto.specs.Classes.{InClass}
use Rattle.sig_auto.specs.Joined.{Lined, entered_first}
use Rattle.sig_auto.specs.Taken.{class_in}
use Rattle.sig_auto.specs.Ways.{has_slot, own}

-- either set has a bit for the start and for each slot of the cells
pub record AreWide (cells : List Cell) (a b : List ℕ) : Type 0 where
  pub from : slots_in cells < 8 * length a
  pub to : slots_in cells < 8 * length b

-- slot q goes behind a state of the set, within the cell
pub record GoesWithin (c : Cell) (from : List ℕ) (q : ℕ) : Type 0 where
  pub state : ℕ
  pub in_set : HasBit from state
  pub slot : has_slot c state ≡ true
  pub goes : own c state q ≡ true

-- a state of the set leaves the cell
pub record IsLeft (c : Cell) (from : List ℕ) : Type 0 where
  pub state : ℕ
  pub in_set : HasBit from state
  pub slot : has_slot c state ≡ true
  pub late : c.before + c.least ≤ state

-- slot s is the first of the cell at this place
pub record IsFirstOf (cells : List Cell) (k s : ℕ) : Type 0 where
  pub cell : Cell
  pub at : slice_get cells k ≡ Some cell
  pub first : s ≡ cell.before + 1

-- so it is, and the set has it
pub record IsMarked (cells : List Cell) (set : List ℕ) (k : ℕ) : Type 0 where
  pub slot : ℕ
  pub is : IsFirstOf cells k slot
  pub bit : HasBit set slot

-- a state of the set leaves the cell at place k, behind which the one at place i is entered
pub record LeavesFor (cells : List Cell) (joints : Joints) (from : List ℕ) (k i : ℕ) : Type 0 where
  pub cell : Cell
  pub joint : Joint
  pub at : slice_get cells k ≡ Some cell
  pub behind : slice_get joints.each.items k ≡ Some joint
  pub left : IsLeft cell from
  pub is : i ≡ joint.enters

-- slot q goes behind a state of the set, within some cell
pub record GoesIn (cells : List Cell) (from : List ℕ) (q : ℕ) : Type 0 where
  pub place : ℕ
  pub cell : Cell
  pub at : slice_get cells place ≡ Some cell
  pub within : GoesWithin cell from q

-- slot q is entered from the start, or from a cell that is left
abbrev pub IsEntered : List Cell → Joints → List ℕ → ℕ → Type 0
IsEntered cells joints from q = (HasBit from 0 × (entered_first (drop joints.start cells) q ≡ true))
    ⊎ ((k i : ℕ) × LeavesFor cells joints from k i × (entered_first (drop i cells) q ≡ true))

-- slot q takes the byte, and comes behind a state of the set
abbrev pub IsCellStep : List Cell → Joints → List ℕ → ℕ → ℕ → Type 0
IsCellStep cells joints from byte q = InClass (class_in cells q) byte × (GoesIn cells from q ⊎ IsEntered cells joints from q)

-- slot q is entered from a cell that is marked, or from one that is left, from place k on
abbrev pub IsAhead : List Cell → Joints → List ℕ → List ℕ → ℕ → ℕ → Type 0
IsAhead cells joints from set k q = ((j : ℕ) × (k ≤ j) × IsMarked cells set j × (entered_first (drop j cells) q ≡ true))
    ⊎ ((m i : ℕ) × (k ≤ m) × LeavesFor cells joints from m i × (entered_first (drop i cells) q ≡ true))

-- the step is done for the slots of the cells before place k, n in all; of the others the set has the first ones of cells, from which
-- with the cells that are left all slots behind are entered
pub record IsPassed (cells : List Cell) (joints : Joints) (from : List ℕ) (byte : ℕ) (set : List ℕ) (k n : ℕ) : Type 0 where
  pub lined : Lined n (drop k cells)
  pub sum : n + slots_in (drop k cells) ≡ slots_in cells
  pub done : (q : ℕ) → q ≤ n → HasBit set q ↔ IsCellStep cells joints from byte q
  pub marks : (q : ℕ) → n < q → HasBit set q → (j : ℕ) × (k ≤ j) × IsFirstOf cells j q
  pub ahead : (q : ℕ) → n < q → IsEntered cells joints from q ↔ IsAhead cells joints from set k q

abbrev pub IsSomePassed : List Cell → Joints → List ℕ → ℕ → List ℕ → ℕ → Type 0
IsSomePassed cells joints from byte set k = (n : ℕ) × IsPassed cells joints from byte set k n
