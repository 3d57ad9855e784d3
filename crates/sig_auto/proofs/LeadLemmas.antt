-- The cells of a tree lead as the tree does: what goes behind a slot.
use Rattle.sig_auto.proofs.Common.{◌||◌, ◌≡◌, ◌⊎◌, ℕ, ◌+◌, ◌<◌, ◌≤◌, ◌&&◌, nat_le, nat_lt, true, false, List, [], ◌∷◌, ◌++◌, Option, Some, None, refl, sym, ap}
use Rattle.sig_auto.proofs.Common.{◌∙◌, subst, inl, inr, arith, add_assoc, or-false, and_from, and_left, and_parts, cases_Bool, cases_eq, cases_lt, cond-false}
use Rattle.sig_auto.proofs.Common.{cond-true, eq-eqb, eqb-true, false_from_ne_true, false≢true, le-leb, le-ltb, lt-ltb, or_from, Class, follows, is_first}
use Rattle.sig_auto.proofs.Common.{is_last, is_nullable, Tree, Never, Empty, Slot, Gap, Then, Or, slots_of, IsTrim, gap_slots, Cell, cells_in, cells_of}
use Rattle.sig_auto.proofs.Common.{gap_cell, middle, slot_cell, IsFlat, entered, exit, gone, has_slot, land, leave, own}
use Rattle.sig_auto.proofs.LocalLemmas.{follows-slots, is_last-slot}
use Rattle.sig_auto.proofs.WayLemmas.{Passes, entered_past, exit_here, exit_later, gone_here, gone_later, land_firm, land_past, passes_none}
use Rattle.sig_auto.proofs.ShapeLemmas.{Fits, IsInner, fits_first, fits_left, fits_right, fits_second, mid_inner, no_skips, null_of_none, passes, some_cells}
use Rattle.sig_auto.proofs.TreeLemmas.{begins, has_in, has_out, lands, stops}

-- ---- what a slot of one part does in the whole

last_out : (t : Tree) (n p : ℕ) → (p ≤ n) ⊎ (n + slots_of t < p) → is_last t n p ≡ false
last_out t n p h = false_from_ne_true (is_last t n p) (λ is. (let slot = is_last-slot t n p is in elim h [ inl under ↦ omega arith | inr over ↦ omega arith ]))

goes_out : (t : Tree) (n p q : ℕ) → (p ≤ n) ⊎ (n + slots_of t < p) → follows t n p q ≡ false
goes_out t n p q h = false_from_ne_true (follows t n p q) (λ is.
    (let slot = (follows-slots t n p q is).0 in elim h [ inl under ↦ omega arith | inr over ↦ omega arith ]))

then_last_low : (t u : Tree) (n p : ℕ) → p ≤ n + slots_of t → is_last (Then t u) n p ≡ (is_last t n p && is_nullable u)
then_last_low t u n p h = ap (λ x. (is_last t n p && is_nullable u) || x) (last_out u (n + slots_of t) p (inl h)) ∙ or-false (is_last t n p && is_nullable u)

then_last_high : (t u : Tree) (n p : ℕ) → n + slots_of t < p → is_last (Then t u) n p ≡ is_last u (n + slots_of t) p
then_last_high t u n p h = ap (λ x. (x && is_nullable u) || is_last u (n + slots_of t) p) (last_out t n p (inr h))

then_goes_low : (t u : Tree) (n p q : ℕ) → p ≤ n + slots_of t → follows (Then t u) n p q ≡ (follows t n p q || (is_last t n p && is_first u (n + slots_of t) q))
then_goes_low t u n p q h = ap (λ x. follows t n p q || (x || (is_last t n p && is_first u (n + slots_of t) q))) (goes_out u (n + slots_of t) p q (inl h))

then_goes_high : (t u : Tree) (n p q : ℕ) → n + slots_of t < p → follows (Then t u) n p q ≡ follows u (n + slots_of t) p q
then_goes_high t u n p q h = grind (arith, goes_out t n p q (inr h), last_out t n p (inr h), or-false)

-- ---- a single cell

one_exit : (c : Cell) (p : ℕ) → has_slot c p ≡ true → exit (c ∷ []) p ≡ leave c p
one_exit c p h = cond-true (has_slot c p) (leave c p) None h

one_gone : (c : Cell) (p q : ℕ) → has_slot c p ≡ true → gone (c ∷ []) p q ≡ own c p q
one_gone c p q h = cond-true (has_slot c p) (own c p q || false) false h ∙ or-false (own c p q)

slot_has : (c : Class) (n a b p : ℕ) → n < p → p ≤ n + 1 → has_slot (slot_cell c n a b) p ≡ true
slot_has c n a b p low high = and_from (nat_lt n p) (nat_le p (n + 1)) (lt-ltb n p low) (le-leb p (n + 1) high)

gap_has : (min : ℕ) (max : Option ℕ) (n a b p : ℕ) → n < p → p ≤ n + gap_slots min max → has_slot (gap_cell min max n a b) p ≡ true
gap_has min max n a b p low high = and_from (nat_lt n p) (nat_le p (n + gap_slots min max)) (lt-ltb n p low) (le-leb p (n + gap_slots min max) high)

-- ---- the joint that a slot reaches

pub ends : (t : Tree) (i n a b p : ℕ) → IsTrim t → IsFlat t → Fits t i a b → n < p → p ≤ n + slots_of t → is_last t n p ≡ true
    → exit (cells_of t i n a b) p ≡ Some b
ends Never i n a b p trim flat fits low high h = absurd (omega arith)
ends Empty i n a b p trim flat fits low high h = absurd (omega arith)
ends (Slot c) i n a b p trim flat fits low high h = grind (arith, one_exit, slot_has, cond-true, le-leb)
ends (Gap min max) i n a b p trim flat fits low high h = grind (arith, eqb-true, cond-false, one_exit, gap_has, cond-true, lt-ltb, le-leb)
ends (Then t u) i n a b p trim flat fits low high h =
    grind (
      arith,
      exit_later,
      has_out t i n a,
      fits_second t u i a b fits,
      then_last_high t u n p,
      and_parts,
      then_last_low t u n p,
      exit_here,
      has_in t i n a,
      fits_first t u i a b trim.3 fits,
      lands u (i + cells_in t) (n + slots_of t),
      ends u (i + cells_in t) (n + slots_of t),
      ends t i n a,
    )
ends (Or t u) i n a b p trim flat fits low high h =
    grind (
      arith,
      exit_later,
      has_out t i n a b p,
      fits_right t u i a b flat.5 fits,
      exit_here,
      has_in t i n a b p low,
      land_firm,
      no_skips u (i + cells_in t) (n + slots_of t) a b flat.3,
      fits_left t u i a b flat.4 fits,
      ends u (i + cells_in t) (n + slots_of t) a b p trim.1 flat.1 (fits_right t u i a b flat.5 fits),
      ends t i n a b p trim.0 flat.0 (fits_left t u i a b flat.4 fits) low,
      last_out,
      or-false,
      is_last,
      slots_of,
    )

-- no joint, or one within the tree
abbrev pub Stays : ℕ → ℕ → Option ℕ → Type 0
Stays i k o = (o ≡ None) ⊎ ((j : ℕ) × (o ≡ Some j) × IsInner i k j)

Stays-wider : (i k w l : ℕ) (o : Option ℕ) → w ≤ i → i + k ≤ w + l → Stays i k o → Stays w l o
Stays-wider i k w l o low high h = elim h [ inl none ↦ inl none | inr at ↦ inr (at.0, at.1, (omega (arith, at.2), omega (arith, at.2))) ]

Stays-is : (i k : ℕ) (o x : Option ℕ) → x ≡ o → Stays i k o → Stays i k x
Stays-is i k o x is h = subst (Stays i k) (sym is) h

-- a joint within the first part is none of the second's
inner_passes : (t u : Tree) (i n a b : ℕ) (o : Option ℕ) → Stays i (cells_in t) o
    → Passes o (cells_of u (i + cells_in t) n (middle a b i (cells_in t) (cells_in u)) b)
inner_passes t u i n a b o h =
    elim h [
      | inl none ↦ subst (λ x. Passes x (cells_of u (i + cells_in t) n (middle a b i (cells_in t) (cells_in u)) b)) (sym none)
          (passes_none (cells_of u (i + cells_in t) n (middle a b i (cells_in t) (cells_in u)) b))
      | inr at ↦
          let inner = at.2 in
          subst (λ x. Passes x (cells_of u (i + cells_in t) n (middle a b i (cells_in t) (cells_in u)) b)) (sym at.1)
          (passes u (i + cells_in t) n (middle a b i (cells_in t) (cells_in u)) b at.0
          (λ k e. (let is : middle a b i (cells_in t) (cells_in u) ≡ i + cells_in t = mid_inner a b i (cells_in t) (cells_in u) k (omega arith) in
          absurd (omega arith)))
          (λ within. absurd (omega arith)))
    ]

pub stays : (t : Tree) (i n a b p : ℕ) → IsTrim t → IsFlat t → Fits t i a b → n < p → p ≤ n + slots_of t → is_last t n p ≡ false
    → Stays i (cells_in t) (exit (cells_of t i n a b) p)
stays Never i n a b p trim flat fits low high h = inl refl
stays Empty i n a b p trim flat fits low high h = inl refl
stays (Slot c) i n a b p trim flat fits low high h = absurd (false≢true (sym h ∙ eq-eqb p (n + 1) (omega arith)))
stays (Gap min max) i n a b p trim flat fits low high h = grind (arith, eqb-true, cond-false, one_exit, gap_has, lt-ltb, le-leb)
stays (Then t u) i n a b p trim flat fits low high h =
    let m : ℕ = middle a b i (cells_in t) (cells_in u) in
    let front : List Cell = cells_of t i n a m in
    let back : List Cell = cells_of u (i + cells_in t) (n + slots_of t) m b in
    elim (cases_lt (n + slots_of t) p) [
      | inl over ↦ grind (
        arith,
        Stays-is,
        exit_later,
        has_out,
        Stays-wider,
        fits_second,
        then_last_high,
        stays u (i + cells_in t) (n + slots_of t) m b p trim.1 flat.1 (fits_second t u i a b fits) over,
      )
      | inr under ↦
          let at = exit_here front back p (has_in t i n a m p low under) in
          elim (cases_Bool (is_last t n p)) [
            | inl last ↦
                let needs : is_nullable u ≡ false = subst (λ x. (x && is_nullable u) ≡ false) last (sym (then_last_low t u n p under) ∙ h) in
                let some : 0 < cells_in t = some_cells t (omega arith) in
                let more : 0 < cells_in u = elim (cases_eq (cells_in u) 0) [
                  | inl none ↦ absurd (false≢true (sym needs ∙ null_of_none u trim.3 none))
                  | inr k ↦
                      omega arith
                ] in
                let mid : m ≡ i + cells_in t = mid_inner a b i (cells_in t) (cells_in u) more some in
                let stop = stops u (i + cells_in t) (n + slots_of t) m b trim.1 flat.1 (fits_second t u i a b fits) needs in
                inr (
                  stop.0,
                  at ∙ ap (λ x. land x back) (ends t i n a m p trim.0 flat.0 (fits_first t u i a b trim.3 fits) low under last) ∙ stop.1,
                  elim stop.2 [
                    | inl is ↦ (let is_mid : stop.0 ≡ i + cells_in t = is ∙ mid in (omega arith, omega arith))
                    | inr inner ↦ (omega (arith, inner), omega (arith, inner))
                  ],
                )
            | inr not ↦
                let one = stays t i n a m p trim.0 flat.0 (fits_first t u i a b trim.3 fits) low under not in
                Stays-is i (cells_in t + cells_in u) (exit front p) (exit (front ++ back) p)
                (at ∙ land_past back (exit front p) (inner_passes t u i (n + slots_of t) a b (exit front p) one))
                (Stays-wider i (cells_in t) i (cells_in t + cells_in u) (exit front p) (omega arith) (omega arith) one)
          ]
    ]
stays (Or t u) i n a b p trim flat fits low high h =
    grind (
      arith,
      Stays-is i (cells_in t + cells_in u),
      exit_later,
      has_out t i n a b p,
      Stays-wider (i + cells_in t) (cells_in u) i (cells_in t + cells_in u),
      Stays-wider i (cells_in t) i (cells_in t + cells_in u),
      fits_right t u i a b flat.5 fits,
      exit_here,
      has_in t i n a b p low,
      land_firm,
      no_skips u (i + cells_in t) (n + slots_of t) a b flat.3,
      fits_left t u i a b flat.4 fits,
      stays u (i + cells_in t) (n + slots_of t) a b p trim.1 flat.1 (fits_right t u i a b flat.5 fits),
      stays t i n a b p trim.0 flat.0 (fits_left t u i a b flat.4 fits) low,
      last_out,
      or-false,
      is_last,
      slots_of,
    )

-- ---- the slots that go behind a slot

-- a branch that is left enters no other
left_passes : (t u : Tree) (i n a b p : ℕ) → IsTrim t → IsFlat t → Fits t i a b → Fits (Or t u) i a b → n < p → p ≤ n + slots_of t
    → Passes (exit (cells_of t i n a b) p) (cells_of u (i + cells_in t) (n + slots_of t) a b)
left_passes t u i n a b p trim flat fits all low high =
    let back : List Cell = cells_of u (i + cells_in t) (n + slots_of t) a b in
    let some : 0 < cells_in t = some_cells t (omega arith) in
    let bottom : a ≤ i = all.low (omega arith) in
    let top : i + (cells_in t + cells_in u) ≤ b = all.high (omega arith) in
    elim (cases_Bool (is_last t n p)) [
      | inl last ↦
          subst (λ x. Passes x back) (sym (ends t i n a b p trim flat fits low high last))
          (passes u (i + cells_in t) (n + slots_of t) a b b (λ k e. absurd (omega arith)) (λ inner. absurd (omega arith)))
      | inr not ↦
          elim (stays t i n a b p trim flat fits low high not) [
            | inl none ↦ subst (λ x. Passes x back) (sym none) (passes_none back)
            | inr at ↦
                let within = at.2 in
                subst (λ x. Passes x back) (sym at.1)
                (passes u (i + cells_in t) (n + slots_of t) a b at.0 (λ k e. absurd (omega arith)) (λ inner. absurd (omega arith)))
          ]
    ]

pub goes : (t : Tree) (i n a b p q : ℕ) → IsTrim t → IsFlat t → Fits t i a b → n < p → p ≤ n + slots_of t → gone (cells_of t i n a b) p q ≡ follows t n p q
goes Never i n a b p q trim flat fits low high = refl
goes Empty i n a b p q trim flat fits low high = refl
goes (Slot c) i n a b p q trim flat fits low high = grind (arith, one_gone, slot_has, or_from, and_left, le-ltb)
goes (Gap min max) i n a b p q trim flat fits low high = grind (arith, eqb-true, cond-false, one_gone, gap_has, lt-ltb, add_assoc)
goes (Then t u) i n a b p q trim flat fits low high =
    let m : ℕ = middle a b i (cells_in t) (cells_in u) in
    let front : List Cell = cells_of t i n a m in
    let back : List Cell = cells_of u (i + cells_in t) (n + slots_of t) m b in
    elim (cases_lt (n + slots_of t) p) [
      | inl over ↦ grind (
        arith,
        gone_later,
        has_out,
        fits_second,
        then_goes_high,
        goes u (i + cells_in t) (n + slots_of t) m b p q trim.1 flat.1 (fits_second t u i a b fits) over,
      )
      | inr under ↦
          gone_here front back p q (has_in t i n a m p low under)
          ∙ ap (λ x. x || entered (exit front p) back q) (goes t i n a m p q trim.0 flat.0 (fits_first t u i a b trim.3 fits) low under)
          ∙ ap (λ x. follows t n p q || x) (elim (cases_Bool (is_last t n p)) [
            | inl last ↦ grind (arith, ends, fits_first, begins, fits_second)
            | inr not ↦
                entered_past back (exit front p) q (inner_passes t u i (n + slots_of t) a b (exit front p)
                (stays t i n a m p trim.0 flat.0 (fits_first t u i a b trim.3 fits) low under not))
                ∙ sym (and_left (is_last t n p) (is_first u (n + slots_of t) q) not)
          ])
          ∙ sym (then_goes_low t u n p q under)
    ]
goes (Or t u) i n a b p q trim flat fits low high =
    grind (
      arith,
      gone_later,
      has_out t i n a b p,
      fits_right t u i a b flat.5 fits,
      gone_here,
      has_in t i n a b p low,
      entered_past,
      left_passes t u i n a b p trim.0 flat.0 (fits_left t u i a b flat.4 fits) fits low,
      fits_left t u i a b flat.4 fits,
      or-false,
      goes u (i + cells_in t) (n + slots_of t) a b p q trim.1 flat.1 (fits_right t u i a b flat.5 fits),
      goes t i n a b p q trim.0 flat.0 (fits_left t u i a b flat.4 fits) low,
      goes_out,
      follows,
      slots_of,
    )
