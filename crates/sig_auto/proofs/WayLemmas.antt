-- Cells one after the other.
use Rattle.sig_auto.proofs.Common.{◌||◌, ◌≡◌, ℕ, ◌&&◌, true, false, List, [], ◌∷◌, ◌++◌, Option, Some, None, refl, sym, ap, ◌∙◌, arith, ⊤, or_assoc, and_left}
use Rattle.sig_auto.proofs.Common.{and_right, cond-false, cond-true, false≢true, or_from, or_parts, Cell, entered, exit, gone, has, has_slot, is_skipped, land}
use Rattle.sig_auto.proofs.Common.{leave, meets, onward}

-- no cell begins behind the joint
abbrev pub Passes : Option ℕ → List Cell → Type 0
Passes j [] = ⊤
Passes j (c ∷ cs) = (meets c j ≡ false) × Passes j cs

pub land_past : (cs : List Cell) (j : Option ℕ) → Passes j cs → land j cs ≡ j
land_past [] j h = refl
land_past (c ∷ cs) j h = grind (arith, land_past cs j h.1, cond-false, and_left)

pub entered_past : (cs : List Cell) (j : Option ℕ) (q : ℕ) → Passes j cs → entered j cs q ≡ false
entered_past [] j q h = refl
entered_past (c ∷ cs) j q h = grind (arith, or_from, and_left, entered_past cs j q h.1, cond-false)

pub passes_none : (cs : List Cell) → Passes None cs
passes_none [] = tt
passes_none (c ∷ cs) = (refl, passes_none cs)

-- no cell may be skipped
abbrev pub NoSkips : List Cell → Type 0
NoSkips [] = ⊤
NoSkips (c ∷ cs) = (is_skipped c ≡ false) × NoSkips cs

pub land_firm : (cs : List Cell) (j : Option ℕ) → NoSkips cs → land j cs ≡ j
land_firm [] j h = refl
land_firm (c ∷ cs) j h = ap (λ x. land x cs) (cond-false (meets c j && is_skipped c) (Some c.behind) j (and_right (meets c j) (is_skipped c) h.0)) ∙ land_firm
    cs j h.1

pub NoSkips-append : (u v : List Cell) → NoSkips u → NoSkips v → NoSkips (u ++ v)
NoSkips-append [] v a b = b
NoSkips-append (c ∷ u) v a b = (a.0, NoSkips-append u v a.1 b)

-- ---- two lists of cells

pub land_append : (u v : List Cell) (j : Option ℕ) → land j (u ++ v) ≡ land (land j u) v
land_append [] v j = refl
land_append (c ∷ u) v j = land_append u v (onward c j)

pub entered_append : (u v : List Cell) (j : Option ℕ) (q : ℕ) → entered j (u ++ v) q ≡ (entered j u q || entered (land j u) v q)
entered_append [] v j q = refl
entered_append (c ∷ u) v j q = grind (arith, or_assoc, entered_append u v (onward c j) q)

pub has_append : (u v : List Cell) (p : ℕ) → has (u ++ v) p ≡ (has u p || has v p)
has_append [] v p = refl
has_append (c ∷ u) v p = ap (λ x. has_slot c p || x) (has_append u v p) ∙ sym (or_assoc (has_slot c p) (has u p) (has v p))

pub exit_here : (u v : List Cell) (p : ℕ) → has u p ≡ true → exit (u ++ v) p ≡ land (exit u p) v
exit_here [] v p h = absurd (false≢true h)
exit_here (c ∷ u) v p h = grind (arith, cond-true, land_append u v (leave c p), cond-false, exit_here u v p)

pub gone_here : (u v : List Cell) (p q : ℕ) → has u p ≡ true → gone (u ++ v) p q ≡ (gone u p q || entered (exit u p) v q)
gone_here [] v p q h = absurd (false≢true h)
gone_here (c ∷ u) v p q h = grind (arith, cond-true, entered_append u v (leave c p) q, or_assoc, cond-false, gone_here u v p q)

pub exit_later : (u v : List Cell) (p : ℕ) → has u p ≡ false → exit (u ++ v) p ≡ exit v p
exit_later [] v p h = refl
exit_later (c ∷ u) v p h = grind (arith, or_parts, cond-false, exit_later u v p)

pub gone_later : (u v : List Cell) (p q : ℕ) → has u p ≡ false → gone (u ++ v) p q ≡ gone v p q
gone_later [] v p q h = refl
gone_later (c ∷ u) v p q h = grind (arith, or_parts, cond-false, gone_later u v p q)
