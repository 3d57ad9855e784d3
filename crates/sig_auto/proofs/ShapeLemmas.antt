-- How many cells a tree takes, and between which joints they stand.
use Rattle.sig_auto.proofs.Common.{◌≡◌, ◌⊎◌, ℕ, ◌+◌, ◌<◌, ◌≤◌, ◌==◌, if◌then◌else◌, true, false, List, [], ◌∷◌, ◌++◌, Option, Some, None, refl, sym, subst, inl}
use Rattle.sig_auto.proofs.Common.{inr, arith, ⊤, and_from, cases_eq, cond-false, cond-true, eq-eqb, eqb-false, eqb-true, false≢true, ne_eqb, or_left, or_right}
use Rattle.sig_auto.proofs.Common.{is_nullable, Tree, Never, Empty, Slot, Gap, Then, Or, slots_of, HasTrack, gap_slots, Cell, cells_in, cells_of, middle}
use Rattle.sig_auto.proofs.Common.{IsFirm}
use Rattle.sig_auto.proofs.WayLemmas.{NoSkips, NoSkips-append, Passes}

-- ---- trees with no cell

pub gap_some : (min : ℕ) (max : Option ℕ) → (gap_slots min max == 0) ≡ false → cells_in (Gap min max) ≡ 1
gap_some min max h = cond-false (gap_slots min max == 0) 0 1 h

pub gap_positive : (min : ℕ) (max : Option ℕ) → (gap_slots min max == 0) ≡ false → 0 < gap_slots min max
gap_positive min max h = let ne : gap_slots min max ≡ 0 → ⊥ = eqb-false (gap_slots min max) 0 h in omega arith

pub no_slots : (t : Tree) → cells_in t ≡ 0 → slots_of t ≡ 0
no_slots Never h = refl
no_slots Empty h = refl
no_slots (Slot c) h = absurd (omega arith)
no_slots (Gap min max) h = grind (arith, eqb-true, gap_some min max)
no_slots (Then a b) h = let x = no_slots a (omega arith) in let y = no_slots b (omega arith) in omega arith
no_slots (Or a b) h = let x = no_slots a (omega arith) in let y = no_slots b (omega arith) in omega arith

pub some_cells : (t : Tree) → 0 < slots_of t → 0 < cells_in t
some_cells t h = grind (arith, no_slots t)

pub no_cells : (t : Tree) (i n a b : ℕ) → cells_in t ≡ 0 → cells_of t i n a b ≡ []
no_cells Never i n a b h = refl
no_cells Empty i n a b h = refl
no_cells (Slot c) i n a b h = absurd (omega arith)
no_cells (Gap min max) i n a b h = grind (arith, cond-true, gap_some min max)
no_cells (Then t u) i n a b h = grind (
  arith,
  no_cells t i n a (middle a b i (cells_in t) (cells_in u)),
  no_cells u (i + cells_in t) (n + slots_of t) (middle a b i (cells_in t) (cells_in u)) b,
)
no_cells (Or t u) i n a b h = grind (arith, no_cells t i n a b, no_cells u (i + cells_in t) (n + slots_of t) a b)

pub null_of_none : (t : Tree) → HasTrack t → cells_in t ≡ 0 → is_nullable t ≡ true
null_of_none Never h none = absurd h
null_of_none Empty h none = refl
null_of_none (Slot c) h none = absurd (omega arith)
null_of_none (Gap min None) h none = grind (arith, no_slots (Gap min None) none)
null_of_none (Gap min (Some max)) h none = grind (arith, no_slots (Gap min (Some max)) none, eq-eqb)
null_of_none (Then a b) h none = and_from (is_nullable a) (is_nullable b) (null_of_none a h.0 (omega arith)) (null_of_none b h.1 (omega arith))
null_of_none (Or a b) h none = grind (arith, or_left, or_right, null_of_none a, null_of_none b)

-- ---- the joint between two parts

pub mid_right : (a b i j k : ℕ) → k ≡ 0 → middle a b i j k ≡ b
mid_right a b i j k h = cond-true (k == 0) b (if j == 0 then a else i + j) (eq-eqb k 0 h)

pub mid_left : (a b i j k : ℕ) → 0 < k → j ≡ 0 → middle a b i j k ≡ a
mid_left a b i j k some h = grind (arith, cond-false, ne_eqb, cond-true, eq-eqb)

pub mid_inner : (a b i j k : ℕ) → 0 < k → 0 < j → middle a b i j k ≡ i + j
mid_inner a b i j k some more = grind (arith, cond-false, ne_eqb)

-- ---- the joints in front of the cells of a tree

abbrev pub IsInner : ℕ → ℕ → ℕ → Type 0
IsInner i k j = (i < j) × (j < i + k)

abbrev pub Fronts : ℕ → ℕ → ℕ → List Cell → Type 0
Fronts i k a [] = ⊤
Fronts i k a (c ∷ cs) = ((c.front ≡ a) ⊎ IsInner i k c.front) × Fronts i k a cs

Fronts-append : (i k a : ℕ) (u v : List Cell) → Fronts i k a u → Fronts i k a v → Fronts i k a (u ++ v)
Fronts-append i k a [] v x y = y
Fronts-append i k a (c ∷ u) v x y = (x.0, Fronts-append i k a u v x.1 y)

Fronts-wider : (i k a w l f : ℕ) (cs : List Cell) → (a ≡ f) ⊎ IsInner w l a → w ≤ i → i + k ≤ w + l → Fronts i k a cs → Fronts w l f cs
Fronts-wider i k a w l f [] at low high h = tt
Fronts-wider i k a w l f (c ∷ cs) at low high h = grind (arith, Fronts-wider i k a w l f cs at low high h.1)

Fronts-none : (t : Tree) (i n a b w l f : ℕ) → cells_in t ≡ 0 → Fronts w l f (cells_of t i n a b)
Fronts-none t i n a b w l f h = subst (Fronts w l f) (sym (no_cells t i n a b h)) tt

pub fronts : (t : Tree) (i n a b : ℕ) → Fronts i (cells_in t) a (cells_of t i n a b)
fronts Never i n a b = tt
fronts Empty i n a b = tt
fronts (Slot c) i n a b = (inl refl, tt)
fronts (Gap min max) i n a b = grind (arith, cond-true, cond-false)
fronts (Then t u) i n a b =
    let m : ℕ = middle a b i (cells_in t) (cells_in u) in
    Fronts-append i (cells_in t + cells_in u) a (cells_of t i n a m) (cells_of u (i + cells_in t) (n + slots_of t) m b)
    (Fronts-wider i (cells_in t) a i (cells_in t + cells_in u) a (cells_of t i n a m) (inl refl) (omega arith) (omega arith) (fronts t i n a m))
    (elim (cases_eq (cells_in u) 0) [
      | inl none ↦ Fronts-none u (i + cells_in t) (n + slots_of t) m b i (cells_in t + cells_in u) a none
      | inr some ↦ grind (arith, Fronts-wider, mid_left, mid_inner, fronts u (i + cells_in t) (n + slots_of t) m b)
    ])
fronts (Or t u) i n a b = grind (arith, Fronts-append, Fronts-wider, fronts t i n a b, fronts u (i + cells_in t) (n + slots_of t) a b)

passes_of : (i k a j : ℕ) (cs : List Cell) → (j ≡ a → ⊥) → (IsInner i k j → ⊥) → Fronts i k a cs → Passes (Some j) cs
passes_of i k a j [] ne out h = tt
passes_of i k a j (c ∷ cs) ne out h = grind (arith, ne_eqb, passes_of i k a j cs ne out h.1)

-- a joint that is neither the one before a tree nor within it
pub passes : (t : Tree) (i n a b j : ℕ) → (0 < cells_in t → j ≡ a → ⊥) → (IsInner i (cells_in t) j → ⊥) → Passes (Some j) (cells_of t i n a b)
passes t i n a b j ne out = grind (arith, no_cells t i n a b, passes_of i (cells_in t) a j (cells_of t i n a b), fronts t i n a b)

-- ---- trees with no gap

pub no_skips : (t : Tree) (i n a b : ℕ) → IsFirm t → NoSkips (cells_of t i n a b)
no_skips Never i n a b h = tt
no_skips Empty i n a b h = tt
no_skips (Slot c) i n a b h = (refl, tt)
no_skips (Gap min max) i n a b h = absurd h
no_skips (Then t u) i n a b h = grind (arith, NoSkips-append, no_skips t i n a, no_skips u (i + cells_in t) (n + slots_of t))
no_skips (Or t u) i n a b h = grind (arith, NoSkips-append, no_skips t i n a b h.0, no_skips u (i + cells_in t) (n + slots_of t) a b h.1)

-- ---- a tree between two joints

pub record Fits (t : Tree) (i a b : ℕ) : Type 0 where
  pub low : 0 < cells_in t → a ≤ i
  pub high : 0 < cells_in t → i + cells_in t ≤ b
  pub closed : is_nullable t ≡ true → cells_in t ≡ 0 → a ≡ b

pub fits_first : (t u : Tree) (i a b : ℕ) → HasTrack u → Fits (Then t u) i a b → Fits t i a (middle a b i (cells_in t) (cells_in u))
fits_first t u i a b some h = grind (arith, mid_right, mid_inner, and_from, null_of_none, mid_left)

pub fits_second : (t u : Tree) (i a b : ℕ) → Fits (Then t u) i a b → Fits u (i + cells_in t) (middle a b i (cells_in t) (cells_in u)) b
fits_second t u i a b h = grind (arith, mid_left, mid_inner, mid_right)

pub fits_left : (t u : Tree) (i a b : ℕ) → is_nullable t ≡ false → Fits (Or t u) i a b → Fits t i a b
fits_left t u i a b needs h = grind (arith, false≢true, h.high)

pub fits_right : (t u : Tree) (i a b : ℕ) → is_nullable u ≡ false → Fits (Or t u) i a b → Fits u (i + cells_in t) a b
fits_right t u i a b needs h = grind (arith, false≢true, h.low, h.high)
