-- The cells of a tree lead as the tree does.
use Rattle.sig_auto.proofs.Common.{◌||◌, ◌≡◌, ◌⊎◌, ℕ, ◌+◌, ◌<◌, ◌≤◌, ◌==◌, true, false, List, [], ◌∷◌, Option, Some, refl, sym, ap, ◌∙◌, inl, inr, arith}
use Rattle.sig_auto.proofs.Common.{or-false, and_from, and_left, and_parts, cases_Bool, cond-false, cond-true, eq-eqb, eqb-true, false_from_ne_true, false≢true}
use Rattle.sig_auto.proofs.Common.{le-leb, le-ltb, leb-true, lt-ltb, ltb-true, or_cases, or_from, or_left, or_right, true≢false, is_first, is_nullable, Tree}
use Rattle.sig_auto.proofs.Common.{Never, Empty, Slot, Gap, Then, Or, slots_of, HasTrack, IsTrim, gap_slots, Cell, cells_in, cells_of, gap_cell, middle}
use Rattle.sig_auto.proofs.Common.{slot_cell, IsFlat, entered, has, land}
use Rattle.sig_auto.proofs.WayLemmas.{Passes, entered_append, entered_past, has_append, land_append, land_firm, land_past}
use Rattle.sig_auto.proofs.ShapeLemmas.{Fits, IsInner, fits_first, fits_left, fits_right, fits_second, gap_positive, mid_inner, mid_left, no_skips}
use Rattle.sig_auto.proofs.ShapeLemmas.{null_of_none, passes}

-- ---- the empty word

pub lands : (t : Tree) (i n a b : ℕ) → IsTrim t → IsFlat t → Fits t i a b → is_nullable t ≡ true → land (Some a) (cells_of t i n a b) ≡ Some b
lands Never i n a b trim flat fits h = absurd (false≢true h)
lands Empty i n a b trim flat fits h = ap Some (fits.closed refl refl)
lands (Slot c) i n a b trim flat fits h = absurd (false≢true h)
lands (Gap min max) i n a b trim flat fits h = grind (arith, cond-true, cond-false, fits.closed, and_from, eq-eqb)
lands (Then t u) i n a b trim flat fits h =
    grind (
      arith,
      and_parts,
      land_append,
      fits_first t u i a b trim.3 fits,
      fits_second t u i a b fits,
      lands t i n a,
      lands u (i + cells_in t) (n + slots_of t),
    )
lands (Or t u) i n a b trim flat fits h = grind (arith, or_cases, false≢true)

-- a joint before the tree or within it
abbrev pub Stops : ℕ → ℕ → ℕ → Option ℕ → Type 0
Stops i k a o = (j : ℕ) × (o ≡ Some j) × ((j ≡ a) ⊎ IsInner i k j)

-- behind a part that needs a byte nothing is entered
stop_passes : (t u : Tree) (i n a b j : ℕ) → HasTrack t → is_nullable t ≡ false → Fits (Then t u) i a b → (j ≡ a) ⊎ IsInner i (cells_in t) j
    → Passes (Some j) (cells_of u (i + cells_in t) n (middle a b i (cells_in t) (cells_in u)) b)
stop_passes t u i n a b j some needs fits at =
    grind (
      arith,
      false≢true,
      null_of_none t some,
      passes u (i + cells_in t) n (middle a b i (cells_in t) (cells_in u)) b j,
      mid_inner a b i (cells_in t) (cells_in u),
      fits.low,
    )

pub stops : (t : Tree) (i n a b : ℕ) → IsTrim t → IsFlat t → Fits t i a b → is_nullable t ≡ false → Stops i (cells_in t) a (land (Some a) (cells_of t i n a b))
stops Never i n a b trim flat fits h = (a, refl, inl refl)
stops Empty i n a b trim flat fits h = absurd (true≢false h)
stops (Slot c) i n a b trim flat fits h = (a, land_firm (slot_cell c n a b ∷ []) (Some a) (refl, tt), inl refl)
stops (Gap min max) i n a b trim flat fits h =
    elim (cases_Bool (gap_slots min max == 0)) [
      | inl met ↦ (a, ap (land (Some a)) (cond-true (gap_slots min max == 0) [] (gap_cell min max n a b ∷ []) met), inl refl)
      | inr apart ↦ (
        a,
        ap (land (Some a)) (cond-false (gap_slots min max == 0) [] (gap_cell min max n a b ∷ []) apart) ∙ land_firm
            (gap_cell min max n a b ∷ []) (Some a) (h, tt),
        inl refl,
      )
    ]
stops (Then t u) i n a b trim flat fits h =
    let m : ℕ = middle a b i (cells_in t) (cells_in u) in
    let front : List Cell = cells_of t i n a m in
    let back : List Cell = cells_of u (i + cells_in t) (n + slots_of t) m b in
    elim (cases_Bool (is_nullable t)) [
      | inl null ↦ grind (
        arith,
        false≢true,
        null_of_none,
        fits_second,
        land_append,
        lands,
        fits_first,
        mid_left,
        mid_inner,
        stops u (i + cells_in t) (n + slots_of t) m b trim.1 flat.1 (fits_second t u i a b fits),
      )
      | inr needs ↦
          let at = stops t i n a m trim.0 flat.0 (fits_first t u i a b trim.3 fits) needs in (
            at.0,
            land_append front back (Some a) ∙ ap (λ x. land x back) at.1 ∙ land_past back (Some at.0)
                (stop_passes t u i (n + slots_of t) a b at.0 trim.2 needs fits at.2),
            elim at.2 [ inl is ↦ inl is | inr inner ↦ inr (inner.0, omega (arith, inner)) ],
          )
    ]
stops (Or t u) i n a b trim flat fits h = (a, land_firm (cells_of (Or t u) i n a b) (Some a) (no_skips (Or t u) i n a b (flat.2, flat.3)), inl refl)

-- ---- the slots that begin

pub begins : (t : Tree) (i n a b q : ℕ) → IsTrim t → IsFlat t → Fits t i a b → entered (Some a) (cells_of t i n a b) q ≡ is_first t n q
begins Never i n a b q trim flat fits = refl
begins Empty i n a b q trim flat fits = refl
begins (Slot c) i n a b q trim flat fits = grind (arith, or-false, eq-eqb)
begins (Gap min max) i n a b q trim flat fits = grind (arith, eqb-true, cond-true, and_left, le-ltb, cond-false, lt-ltb, gap_positive, or-false, eq-eqb)
begins (Then t u) i n a b q trim flat fits =
    let m : ℕ = middle a b i (cells_in t) (cells_in u) in
    let front : List Cell = cells_of t i n a m in
    let back : List Cell = cells_of u (i + cells_in t) (n + slots_of t) m b in
    let one : entered (Some a) front q ≡ is_first t n q = begins t i n a m q trim.0 flat.0 (fits_first t u i a b trim.3 fits) in
    entered_append front back (Some a) q
    ∙ ap (λ x. x || entered (land (Some a) front) back q) one
    ∙ ap (λ x. is_first t n q || x) (elim (cases_Bool (is_nullable t)) [
      | inl null ↦ grind (arith, lands, fits_first, fits_second, begins u (i + cells_in t) (n + slots_of t) m b q trim.1 flat.1 (fits_second t u i a b fits))
      | inr needs ↦
          let at = stops t i n a m trim.0 flat.0 (fits_first t u i a b trim.3 fits) needs in
          ap (λ x. entered x back q) at.1
          ∙ entered_past back (Some at.0) q (stop_passes t u i (n + slots_of t) a b at.0 trim.2 needs fits at.2)
          ∙ sym (and_left (is_nullable t) (is_first u (n + slots_of t) q) needs)
    ])
begins (Or t u) i n a b q trim flat fits =
    grind (
      arith,
      entered_append,
      fits_left t u i a b flat.4 fits,
      land_firm,
      no_skips t i n a b flat.2,
      fits_right t u i a b flat.5 fits,
      begins t i n a b q trim.0 flat.0 (fits_left t u i a b flat.4 fits),
      begins u (i + cells_in t) (n + slots_of t) a b q trim.1 flat.1 (fits_right t u i a b flat.5 fits),
    )

-- ---- the slots of the cells are those of the tree

pub has_in : (t : Tree) (i n a b p : ℕ) → n < p → p ≤ n + slots_of t → has (cells_of t i n a b) p ≡ true
has_in Never i n a b p low high = absurd (omega arith)
has_in Empty i n a b p low high = absurd (omega arith)
has_in (Slot c) i n a b p low high = grind (arith, or_left, and_from, lt-ltb, le-leb)
has_in (Gap min max) i n a b p low high = grind (arith, eqb-true, cond-false, or_left, and_from, lt-ltb, le-leb)
has_in (Then t u) i n a b p low high = grind (arith, has_append, or_right, or_left, has_in u (i + cells_in t) (n + slots_of t), has_in t i n a)
has_in (Or t u) i n a b p low high =
    grind (
      arith,
      has_append (cells_of t i n a b) (cells_of u (i + cells_in t) (n + slots_of t) a b) p,
      or_right,
      or_left,
      has_in u (i + cells_in t) (n + slots_of t) a b p,
      has_in t i n a b p low,
    )

pub has_out : (t : Tree) (i n a b p : ℕ) → (p ≤ n) ⊎ (n + slots_of t < p) → has (cells_of t i n a b) p ≡ false
has_out Never i n a b p h = refl
has_out Empty i n a b p h = refl
has_out (Slot c) i n a b p h = grind (arith, slot_cell c n a b, or_from, false_from_ne_true, and_parts, ltb-true, leb-true)
has_out (Gap min max) i n a b p h = grind (arith, cond-true, cond-false, or_from, false_from_ne_true, and_parts, ltb-true, leb-true)
has_out (Then t u) i n a b p h = grind (arith, has_append, or_from, has_out t i n a, has_out u (i + cells_in t) (n + slots_of t))
has_out (Or t u) i n a b p h = grind (arith, has_append, or_from, has_out t i n a b p, has_out u (i + cells_in t) (n + slots_of t) a b p)
