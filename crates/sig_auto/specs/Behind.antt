-- What comes behind a state, in the words of the cells.
use Rattle.std.specs.Prelude.{◌≡◌, ℕ, ◌+◌, ◌==◌, ◌||◌, ◌≤◌, if◌then◌else◌, Bool, true, false, List, [], ◌∷◌, drop, length, Option, Some, None}
use Rattle.sig_auto.specs.declared.behind.Behind.{Behind}
use Rattle.sig_auto.specs.declared.cell.Cell.{Cell}
use Rattle.sig_auto.specs.Joined.{Lined, entered_first, is_joint}
use Rattle.sig_auto.specs.Ways.{entered, exit, gone, has_slot, land}

-- how many slots they have
abbrev pub slots_in : List Cell → ℕ
slots_in [] = 0
slots_in (c ∷ cs) = c.count + slots_in cs

-- the slot is the one
abbrev pub is_own : Option ℕ → ℕ → Bool
is_own None q = false
is_own (Some own) q = q == own

-- the cells have all slots in order, and are few
pub record AreReady (cells : List Cell) : Type 0 where
  pub lined : Lined 0 cells
  pub few : slots_in cells ≤ 65535
  pub short : length cells ≤ 65535

-- the cell at this place has the slot
pub record IsCellOf (cells : List Cell) (p k : ℕ) : Type 0 where
  pub cell : Cell
  pub rest : List Cell
  pub is : drop k cells ≡ cell ∷ rest
  pub slot : has_slot cell p ≡ true

-- slot q goes behind the state, or is the first of a cell that is entered behind it
pub record IsBehind (cells : List Cell) (p : ℕ) (b : Behind) : Type 0 where
  pub goes : (q : ℕ) → (if p == 0 then entered (Some 0) cells q else gone cells p q) ≡ (is_own b.own q || entered_first (drop b.enters cells) q)
  pub ends : b.ends ≡ is_joint (if p == 0 then land (Some 0) cells else exit cells p) (length cells)

-- all slots of the cells are above this one
pub record LiesBehind (q : ℕ) (cells : List Cell) : Type 0 where
  pub before : ℕ
  pub most : q ≤ before
  pub lined : Lined before cells

-- the state is one, and from it the joint behind all cells is reached
abbrev pub EndsAt : List Cell → ℕ → Type 0
EndsAt cells p = (p ≤ slots_in cells) × (is_joint (if p == 0 then land (Some 0) cells else exit cells p) (length cells) ≡ true)
