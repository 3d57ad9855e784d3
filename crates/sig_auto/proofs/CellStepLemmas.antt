-- A step of a set of states, cell by cell.
use Rattle.sig_auto.proofs.Common.{◌≡◌, ◌⊎◌, ◌↔◌, ℕ, ◌+◌, ◌-◌, ◌<◌, ◌≤◌, nat_le, nat_lt, Bool, true, false, List, [], ◌∷◌, drop, get_or, length, Option, Some}
use Rattle.sig_auto.proofs.Common.{None, arith, refl, slice_get, IsTrue, and_from, and_parts, eq-eqb, eqb-true, false≢true, le-leb, leb-true, lt-ltb, ltb-true}
use Rattle.sig_auto.proofs.Common.{or_cases, or_left, or_right, HasBit, IsShiftedBit, Cell, slots_in, GoesWithin, IsFirstOf, Lined, entered_first, entered}
use Rattle.sig_auto.proofs.Common.{has_slot, onward, get_or_from_slice_get, slice_get-get_or, slice_get_within}
use Rattle.sig_auto.proofs.BehindLemmas.{drop_twice, lined_drop}
use Rattle.sig_auto.proofs.JoinLemmas.{drop_past, here_of}
use Rattle.sig_auto.proofs.LineLemmas.{lined_later}

-- ---- within a cell

pub slot_from : (c : Cell) (p : ℕ) → c.before < p → p ≤ c.before + c.count → has_slot c p ≡ true
slot_from c p low high = and_from (nat_lt c.before p) (nat_le p (c.before + c.count)) (lt-ltb c.before p low) (le-leb p (c.before + c.count) high)

pub within_endless : (c : Cell) (from old mid new : List ℕ) (first last : ℕ) (takes : Bool) → 0 < c.count → first ≡ c.before + 1 → last ≡ c.before + c.count
    → takes ≡ true → c.endless ≡ true → HasBit from last → ((s : ℕ) → HasBit mid s ↔ (HasBit old s ⊎ IsShiftedBit from first last s))
    → ((s : ℕ) → HasBit new s ↔ ((s ≡ last) ⊎ HasBit mid s)) → (s : ℕ) → HasBit new s ↔ (HasBit old s ⊎ (IsTrue takes × GoesWithin c from s))
within_endless c from old mid new first last takes some first_is last_is wanted endless bit shifted added s =
    grind (arith, slot_from, or_left, and_from, lt-ltb, eq-eqb, or_right, and_parts, ltb-true, or_cases, eqb-true)

-- ---- the first slot of a cell

pub enters_none : (cells : List Cell) (set : List ℕ) (at : ℕ) (b : Bool) → (b ≡ false) ⊎ (slice_get cells at ≡ None) → (s : ℕ)
    → HasBit set s ↔ (HasBit set s ⊎ (IsTrue b × IsFirstOf cells at s))
enters_none cells set at b why s = grind (arith, false≢true)

pub enters_one : (cells : List Cell) (old new : List ℕ) (at x : ℕ) (c : Cell) (b : Bool) → b ≡ true → slice_get cells at ≡ Some c → x ≡ c.before + 1
    → ((s : ℕ) → HasBit new s ↔ ((s ≡ x) ⊎ HasBit old s)) → (s : ℕ) → HasBit new s ↔ (HasBit old s ⊎ (IsTrue b × IsFirstOf cells at s))
enters_one cells old new at x c b wanted here x_is added s = grind arith

-- ---- the order of the cells

pub cell_at : (cells : List Cell) (k : ℕ) (c : Cell) → slice_get cells k ≡ Some c → drop k cells ≡ c ∷ drop (k + 1) cells
cell_at cells k c at = grind (arith, here_of cells k c (slice_get_within cells k c at), slice_get_within, get_or_from_slice_get)

-- its first slot is one of all
pub first_room : (cells : List Cell) (k : ℕ) (c : Cell) → Lined 0 cells → slice_get cells k ≡ Some c → c.before + 1 ≤ slots_in cells
first_room cells k c lined at = grind (arith, lined_later cells (drop (k + 1) cells) 0 k c lined (cell_at cells k c at), cell_at cells k c at)

-- a cell stands behind those before it
pub order : (cells : List Cell) (i j : ℕ) (c d : Cell) → Lined 0 cells → slice_get cells i ≡ Some c → slice_get cells j ≡ Some d → i < j
    → c.before + c.count ≤ d.before
order cells i j c d lined at_i at_j less =
    grind (
      arith,
      lined_later cells (drop (i + 1) cells) 0 i c lined (cell_at cells i c at_i),
      lined_later (drop (i + 1) cells) (drop (j + 1) cells) (c.before + c.count) (j - (i + 1)) d,
      cell_at cells i c at_i,
      cell_at cells j d at_j,
      drop_twice cells (i + 1) (j - (i + 1)),
    )

-- what a cell has: some slots, behind so many
pub has_some : (cells : List Cell) (k : ℕ) (c : Cell) → Lined 0 cells → slice_get cells k ≡ Some c → 0 < c.count
has_some cells k c lined at = (lined_later cells (drop (k + 1) cells) 0 k c lined (cell_at cells k c at)).1

-- a slot of two cells is one of the same cell
pub same_place : (cells : List Cell) (i j q : ℕ) (c d : Cell) → Lined 0 cells → slice_get cells i ≡ Some c → slice_get cells j ≡ Some d
    → c.before < q → q ≤ c.before + c.count → d.before < q → q ≤ d.before + d.count → i ≡ j
same_place cells i j q c d lined at_i at_j low high low_d high_d = grind (arith, order)

pub same_first : (cells : List Cell) (i j s : ℕ) → Lined 0 cells → IsFirstOf cells i s → IsFirstOf cells j s → i ≡ j
same_first cells i j s lined one two = grind (
  arith,
  has_some cells i one.cell lined one.at,
  has_some cells j two.cell lined two.at,
  same_place cells i j s one.cell two.cell lined one.at two.at,
)

-- a first slot behind the cell at a place
pub first_above : (cells : List Cell) (k i s : ℕ) (c : Cell) → Lined 0 cells → slice_get cells k ≡ Some c → k + 1 ≤ i → IsFirstOf cells i s
    → c.before + c.count < s
first_above cells k i s c lined at more f = grind (arith, order cells k i c f.cell lined at f.at)

-- ---- what is entered

entered_low : (cs : List Cell) (n : ℕ) (j : Option ℕ) (q : ℕ) → Lined n cs → entered j cs q ≡ true → n < q
entered_low [] n j q lined go = absurd (false≢true go)
entered_low (c ∷ cs) n j q lined go = grind (arith, or_cases, eqb-true, and_parts, entered_low cs (n + c.count) (onward c j) q lined.2)

pub first_low : (cs : List Cell) (n q : ℕ) → Lined n cs → entered_first cs q ≡ true → n < q
first_low [] n q lined go = absurd (false≢true go)
first_low (c ∷ cs) n q lined go = entered_low (c ∷ cs) n (Some c.front) q lined go

-- from a later place on, only slots behind the cell are entered
pub above_cell : (cells : List Cell) (k i q : ℕ) (c : Cell) → Lined 0 cells → slice_get cells k ≡ Some c → k + 1 ≤ i → entered_first (drop i cells) q ≡ true
    → c.before + c.count < q
above_cell cells k i q c lined at more go =
    grind (
      arith,
      lined_later cells (drop (k + 1) cells) 0 k c lined (cell_at cells k c at),
      cell_at cells k c at,
      lined_drop (c.before + c.count) (i - (k + 1)) (drop (k + 1) cells),
      drop_twice cells (k + 1) (i - (k + 1)),
      first_low (drop i cells),
    )

-- a place from which something is entered is one of a cell
pub some_cell : (cells : List Cell) (i q : ℕ) → entered_first (drop i cells) q ≡ true → i < length cells
some_cell cells i q go = grind (arith, false≢true, drop_past cells i)

-- the first slot of the cell at that place
pub first_there : (cells : List Cell) (i : ℕ) (d : Cell) → i < length cells → IsFirstOf cells i ((get_or cells i d).before + 1)
first_there cells i d inside = record { cell = get_or cells i d; at = slice_get-get_or cells i d inside; first = refl }

-- what goes on within a cell stays in it
pub goes_inside : (c : Cell) (from : List ℕ) (q : ℕ) → GoesWithin c from q → (c.before < q) × (q ≤ c.before + c.count)
goes_inside c from q g = grind (arith, and_parts, ltb-true, leb-true, or_cases, eqb-true)
