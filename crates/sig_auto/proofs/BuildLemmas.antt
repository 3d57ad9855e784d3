-- Cells that are made one after the other.
use Rattle.sig_auto.proofs.Common.{◌≡◌, ℕ, zero, suc, ◌+◌, ◌-◌, ◌<◌, ◌≤◌, ◌==◌, if◌then◌else◌, Bool, true, false, List, [], ◌∷◌, ◌++◌, drop, get_or, length}
use Rattle.sig_auto.proofs.Common.{map, refl, sym, ap, ◌∙◌, subst, arith, append_assoc, length-append, cond-false, cond-true, eqb-false, eqb-true, false≢true}
use Rattle.sig_auto.proofs.Common.{Class, any, Tree, Slot, Then, alternatives_tree, atom_tree, atoms_tree, row_tree, rows_tree, slots_of, Atom}
use Rattle.sig_auto.proofs.Common.{AlternativesSound, AtomSound, AtomsSound, Cell, Puts, cells_in, cells_of, middle}
use Rattle.sig_auto.proofs.WholeLemmas.{atom_has_track}
use Rattle.sig_auto.proofs.BeginLemmas.{atom_not_nullable}
use Rattle.sig_auto.proofs.JoinLemmas.{drop_past, here_of}
use Rattle.sig_auto.proofs.LineLemmas.{length_of}
use Rattle.sig_auto.proofs.ShapeLemmas.{mid_inner, mid_right, null_of_none}

-- what was put, and what is still to come, are the cells of the whole tree
pub record Comes (t rest : Tree) (n front behind : ℕ) (old new : List Cell) (slots from : ℕ) : Type 0 where
  pub cells : old ++ cells_of t (length old) n front behind ≡ new ++ cells_of rest (length new) slots from behind
  pub count : slots + slots_of rest ≡ n + slots_of t
  pub room : length new + cells_in rest ≡ length old + cells_in t

pub puts_length : (t : Tree) (n front behind : ℕ) (old new : List Cell) (slots : ℕ) → Puts t n front behind old new slots → length new ≡ length old + cells_in t
puts_length t n front behind old new slots h = grind (arith, length-append, length_of t (length old) n front behind)

pub comes_then : (t a b : Tree) (n front behind : ℕ) (old new next : List Cell) (slots from more mid : ℕ) →
    Comes t (Then a b) n front behind old new slots from → mid ≡ middle from behind (length new) (cells_in a) (cells_in b) → Puts a slots from mid new next more
    → Comes t b n front behind old next more mid
comes_then t a b n front behind old new next slots from more mid h is put = grind (arith, puts_length a slots from mid new next more put, append_assoc)

-- ---- rows

row_cells : (cs : List Class) → cells_in (row_tree cs) ≡ length cs
row_cells [] = refl
row_cells (c ∷ cs) = let more = row_cells cs in omega arith

length_drop : {A : Type 0} (xs : List A) (j : ℕ) → length (drop j xs) ≡ length xs - j
length_drop [] zero = refl
length_drop [] (suc j) = omega arith
length_drop (x ∷ xs) zero = omega arith
length_drop (x ∷ xs) (suc j) = let more = length_drop xs j in omega arith

-- the joint behind a part of a row or of an alternative
pub joint_is : (from behind i j k next : ℕ) (last : Bool) → 0 < j → (last ≡ true → k ≡ 0) → (last ≡ false → 0 < k) → next ≡ (if last then behind else i + j)
    → next ≡ middle from behind i j k
joint_is from behind i j k next last some ended more is = grind (arith, cond-true, mid_right, cond-false, mid_inner)

pub row_steps : (t : Tree) (row : List Class) (j n front behind : ℕ) (old new next : List Cell) (slots from more mid : ℕ) (list : List Cell) (c d : Class)
    (last : Bool) →
    Comes t (row_tree (drop j row)) n front behind old new slots from → j < length row → c ≡ get_or row j d → last ≡ (j + 1 == length row) → list ≡ new
    → mid ≡ (if last then behind else length list + 1) → Puts (Slot c) slots from mid new next more →
    Comes t (row_tree (drop (j + 1) row)) n front behind old next more mid
row_steps t row j n front behind old new next slots from more mid list c d last h less is told same mid_is put =
    grind (
      arith,
      here_of row j d less,
      comes_then t (Slot (get_or row j d)) (row_tree (drop (j + 1) row)) n front behind old new next slots from more mid,
      row_cells,
      length_drop,
      joint_is,
      eqb-true,
      eqb-false,
    )

-- there is room for the next part
pub part_room : (t a b : Tree) (n front behind : ℕ) (old new : List Cell) (slots from : ℕ) → Comes t (Then a b) n front behind old new slots from
    → n + slots_of t ≤ 65535 → length old + cells_in t ≤ 65535 → (slots + slots_of a ≤ 65535) × (length new + cells_in a ≤ 65535)
part_room t a b n front behind old new slots from h few short = grind arith

pub row_room : (t : Tree) (row : List Class) (j n front behind : ℕ) (old new list : List Cell) (slots from : ℕ)
    → Comes t (row_tree (drop j row)) n front behind old new slots from → j < length row → list ≡ new → n + slots_of t ≤ 65535 → length old + cells_in t ≤ 65535
    → (slots < 65535) × (length list + 1 ≤ 65535)
row_room t row j n front behind old new list slots from h less is few short =
    grind (arith, here_of row j any less, part_room t (Slot (get_or row j any)) (row_tree (drop (j + 1) row)) n front behind old new slots from)

-- ---- the rows and the alternatives

pub rows_on : {X : Type 0} (items : X → List Class) (t : Tree) (rows : List X) (j n front behind : ℕ) (old new next : List Cell) (slots more : ℕ) (x : X)
    (row : List Class) →
    Comes t (rows_tree (map items (drop j rows))) n front behind old new slots front → j < length rows → x ≡ get_or rows j x → row ≡ items x
    → Puts (row_tree row) slots front behind new next more →
    Comes t (rows_tree (map items (drop (j + 1) rows))) n front behind old next more front
rows_on items t rows j n front behind old new next slots more x row h less is value put =
    grind (arith, here_of rows j x less, puts_length, append_assoc)

pub alternatives_on : {X : Type 0} (items : X → List Atom) (t : Tree) (rows : List X) (j n front behind : ℕ) (old new next : List Cell) (slots more : ℕ) (x : X)
    (row : List Atom) →
    Comes t (alternatives_tree (map items (drop j rows))) n front behind old new slots front → j < length rows → x ≡ get_or rows j x → row ≡ items x
    → Puts (atoms_tree row) slots front behind new next more →
    Comes t (alternatives_tree (map items (drop (j + 1) rows))) n front behind old next more front
alternatives_on items t rows j n front behind old new next slots more x row h less is value put =
    grind (arith, here_of rows j x less, puts_length, append_assoc)

pub alternative_is_sound : {X : Type 0} (items : X → List Atom) (rows : List X) (j : ℕ) (x : X) (row : List Atom) → j < length rows
    → AlternativesSound (map items rows) → x ≡ get_or rows j x → row ≡ items x → AtomsSound row
alternative_is_sound items [] j x row less sound is value = absurd (omega arith)
alternative_is_sound items (y ∷ rows) zero x row less sound is value = subst AtomsSound (sym (value ∙ ap items is)) sound.0
alternative_is_sound items (y ∷ rows) (suc j) x row less sound is value = alternative_is_sound items rows j x row (omega arith) sound.1 is value

pub rows_more : {X : Type 0} (items : X → List Class) (rows : List X) (j count all more : ℕ) (x : X)
    → count + cells_in (rows_tree (map items (drop j rows))) ≡ all → j < length rows → x ≡ get_or rows j x → more ≡ length (items x)
    → count + more + cells_in (rows_tree (map items (drop (j + 1) rows))) ≡ all
rows_more items rows j count all more x h less is told = grind (arith, here_of rows j x less, row_cells (items x))

-- ---- the parts of an alternative

atom_cells : (p : Atom) → AtomSound p → 0 < cells_in (atom_tree p)
atom_cells p sound = grind (arith, false≢true, atom_not_nullable p sound, null_of_none (atom_tree p) (atom_has_track p sound), atom_has_track p sound)

pub atom_sound : (atoms : List Atom) (j : ℕ) (d : Atom) → j < length atoms → AtomsSound atoms → AtomSound (get_or atoms j d)
atom_sound [] j d less h = absurd (omega arith)
atom_sound (x ∷ atoms) zero d less h = h.0
atom_sound (x ∷ atoms) (suc j) d less h = atom_sound atoms j d (omega arith) h.1

later_cells : (atoms : List Atom) (j : ℕ) → j < length atoms → AtomsSound atoms → 0 < cells_in (atoms_tree (drop j atoms))
later_cells [] j less h = absurd (omega arith)
later_cells (x ∷ atoms) zero less h = let some = atom_cells x h.0 in omega arith
later_cells (x ∷ atoms) (suc j) less h = later_cells atoms j (omega arith) h.1

pub atoms_on : (t part : Tree) (atoms : List Atom) (j n front behind : ℕ) (old new next list : List Cell) (slots from more mid count : ℕ) (x : Atom)
    (last : Bool) →
    Comes t (atoms_tree (drop j atoms)) n front behind old new slots from → j < length atoms → AtomsSound atoms → x ≡ get_or atoms j x → part ≡ atom_tree x
    → count ≡ cells_in part → last ≡ (j + 1 == length atoms) → list ≡ new → mid ≡ (if last then behind else length list + count) →
    Puts part slots from mid new next more → Comes t (atoms_tree (drop (j + 1) atoms)) n front behind old next more mid
atoms_on t part atoms j n front behind old new next list slots from more mid count x last h less sound here is counted told same mid_is put =
    let puts = comes_then t part (atoms_tree (drop (j + 1) atoms)) n front behind old new next slots from more mid in
    let one = atom_cells x in
    let later = later_cells atoms (j + 1) in
    grind (arith, here_of atoms j x less, puts, one, later, atom_sound atoms j x less sound, joint_is, eqb-true, eqb-false, drop_past atoms (j + 1))
