-- The cells of a tree in order: their slots, classes and joints.
use Rattle.sig_auto.proofs.Common.{◌||◌, ◌≡◌, ℕ, zero, suc, ◌+◌, ◌-◌, ◌<◌, ◌≤◌, true, List, [], ◌∷◌, ◌++◌, drop, get_or, length, replicate, refl, sym, ap, ◌∙◌}
use Rattle.sig_auto.proofs.Common.{subst, arith, append_assoc, length-append, lit<, and_parts, cond-false, cond-true, eqb-true, leb-true, ltb-true, append-nil}
use Rattle.sig_auto.proofs.Common.{get_or_append_left, get_or-append_right, get_or-replicate, length-replicate, any, Tree, Never, Empty, Slot, Gap, Then, Or}
use Rattle.sig_auto.proofs.Common.{classes_of, slots_of, Cell, cells_in, cells_of, middle, slots_in, Bounded, Lined, spread, entered, exit, gone, has_slot}
use Rattle.sig_auto.proofs.Common.{land, leave, own}
use Rattle.sig_auto.proofs.ShapeLemmas.{gap_positive, gap_some, mid_inner, mid_left, mid_right}

total_append : (u v : List Cell) → slots_in (u ++ v) ≡ slots_in u + slots_in v
total_append [] v = omega arith
total_append (c ∷ u) v = let more = total_append u v in omega arith

pub total_of : (t : Tree) (i n a b : ℕ) → slots_in (cells_of t i n a b) ≡ slots_of t
total_of Never i n a b = refl
total_of Empty i n a b = refl
total_of (Slot c) i n a b = refl
total_of (Gap min max) i n a b = grind (arith, cond-true, eqb-true, cond-false)
total_of (Then t u) i n a b = grind (arith, total_append, total_of t i n a, total_of u (i + cells_in t) (n + slots_of t))
total_of (Or t u) i n a b = grind (arith, total_append, total_of t i n a b, total_of u (i + cells_in t) (n + slots_of t) a b)

pub length_of : (t : Tree) (i n a b : ℕ) → length (cells_of t i n a b) ≡ cells_in t
length_of Never i n a b = refl
length_of Empty i n a b = refl
length_of (Slot c) i n a b = refl
length_of (Gap min max) i n a b = grind (arith, cond-true, cond-false, gap_some min max)
length_of (Then t u) i n a b = grind (arith, length-append, length_of t i n a, length_of u (i + cells_in t) (n + slots_of t))
length_of (Or t u) i n a b = grind (arith, length-append, length_of t i n a b, length_of u (i + cells_in t) (n + slots_of t) a b)

Lined-append : (n m : ℕ) (u v : List Cell) → m ≡ n + slots_in u → Lined n u → Lined m v → Lined n (u ++ v)
Lined-append n m [] v is h k = let same : m ≡ n = omega arith in subst (λ x. Lined x v) same k
Lined-append n m (c ∷ u) v is h k = (h.0, h.1, Lined-append (n + c.count) m u v (omega arith) h.2 k)

pub lined : (t : Tree) (i n a b : ℕ) → Lined n (cells_of t i n a b)
lined Never i n a b = tt
lined Empty i n a b = tt
lined (Slot c) i n a b = (refl, lit< tt, tt)
lined (Gap min max) i n a b = grind (arith, cond-true, cond-false, gap_positive min max)
lined (Then t u) i n a b = grind (arith, Lined-append n (n + slots_of t), total_of t i n a, lined t i n a, lined u (i + cells_in t) (n + slots_of t))
lined (Or t u) i n a b = grind (arith, Lined-append, total_of, lined t i n a b, lined u (i + cells_in t) (n + slots_of t) a b)

Bounded-append : (n : ℕ) (u v : List Cell) → Bounded n u → Bounded n v → Bounded n (u ++ v)
Bounded-append n [] v h k = k
Bounded-append n (c ∷ u) v h k = (h.0, h.1, Bounded-append n u v h.2 k)

middle_bounded : (a b i j k n : ℕ) → a ≤ n → b ≤ n → i + (j + k) ≤ n → middle a b i j k ≤ n
middle_bounded a b i j k n front behind most = grind (arith, mid_right a b i j k, mid_left a b i j k, mid_inner a b i j k)

pub bounded : (t : Tree) (i n a b most : ℕ) → a ≤ most → b ≤ most → i + cells_in t ≤ most → Bounded most (cells_of t i n a b)
bounded Never i n a b most front behind h = tt
bounded Empty i n a b most front behind h = tt
bounded (Slot c) i n a b most front behind h = (front, behind, tt)
bounded (Gap min max) i n a b most front behind h = grind (arith, cond-true, cond-false)
bounded (Then t u) i n a b most front behind h =
    let m : ℕ = middle a b i (cells_in t) (cells_in u) in
    let mid : m ≤ most = middle_bounded a b i (cells_in t) (cells_in u) most front behind h in
    Bounded-append most (cells_of t i n a m) (cells_of u (i + cells_in t) (n + slots_of t) m b)
    (bounded t i n a m most front mid (omega arith)) (bounded u (i + cells_in t) (n + slots_of t) m b most mid behind (omega arith))
bounded (Or t u) i n a b most front behind h =
    grind (
      arith,
      Bounded-append most (cells_of t i n a b) (cells_of u (i + cells_in t) (n + slots_of t) a b),
      bounded t i n a b most front behind,
      bounded u (i + cells_in t) (n + slots_of t) a b most front behind,
    )

-- ---- classes

spread_append : (u v : List Cell) → spread (u ++ v) ≡ spread u ++ spread v
spread_append [] v = refl
spread_append (c ∷ u) v = ap (λ x. replicate c.count c.class ++ x) (spread_append u v) ∙ sym (append_assoc (replicate c.count c.class) (spread u) (spread v))

pub spread_of : (t : Tree) (i n a b : ℕ) → spread (cells_of t i n a b) ≡ classes_of t
spread_of Never i n a b = refl
spread_of Empty i n a b = refl
spread_of (Slot c) i n a b = refl
spread_of (Gap min max) i n a b = grind (arith, cond-true, eqb-true, cond-false, append-nil)
spread_of (Then t u) i n a b = grind (arith, spread_append, spread_of t i n a, spread_of u (i + cells_in t) (n + slots_of t))
spread_of (Or t u) i n a b = grind (arith, spread_append, spread_of t i n a b, spread_of u (i + cells_in t) (n + slots_of t) a b)

-- ---- the cell at a place

pub slot_parts : (c : Cell) (p : ℕ) → has_slot c p ≡ true → (c.before < p) × (p ≤ c.before + c.count)
slot_parts c p h = grind (arith, and_parts, ltb-true, leb-true)

pub lined_later : (cs rest : List Cell) (n k : ℕ) (c : Cell) → Lined n cs → drop k cs ≡ c ∷ rest → (n ≤ c.before) × (0 < c.count)
    × Lined (c.before + c.count) rest × (c.before + c.count + slots_in rest ≡ n + slots_in cs)
lined_later [] rest n zero c h is = absurd (cc)
lined_later [] rest n (suc k) c h is = absurd (cc)
lined_later (d ∷ cs) rest n zero c h is = grind arith
lined_later (d ∷ cs) rest n (suc k) c h is = grind (arith, lined_later cs rest (n + d.count) k c h.2 is)

pub class_at : (cs rest : List Cell) (n k q : ℕ) (c : Cell) → Lined n cs → drop k cs ≡ c ∷ rest → c.before < q → q ≤ c.before + c.count
    → get_or (spread cs) (q - (n + 1)) any ≡ c.class
class_at [] rest n zero q c h is low high = absurd (cc)
class_at [] rest n (suc k) q c h is low high = absurd (cc)
class_at (d ∷ cs) rest n zero q c h is low high = grind (arith, length-replicate, get_or_append_left, get_or-replicate)
class_at (d ∷ cs) rest n (suc k) q c h is low high =
    grind (arith, lined_later cs rest (n + d.count) k c h.2 is, get_or-append_right, length-replicate, class_at cs rest (n + d.count) k q c h.2 is low high)

pub gone_at : (cs rest : List Cell) (n k p q : ℕ) (c : Cell) → Lined n cs → drop k cs ≡ c ∷ rest → has_slot c p ≡ true
    → gone cs p q ≡ (own c p q || entered (leave c p) rest q)
gone_at [] rest n zero p q c h is slot = absurd (cc)
gone_at [] rest n (suc k) p q c h is slot = absurd (cc)
gone_at (d ∷ cs) rest n zero p q c h is slot = grind (arith, cond-true)
gone_at (d ∷ cs) rest n (suc k) p q c h is slot =
    grind (arith, lined_later cs rest (n + d.count) k c h.2 is, slot_parts c p slot, cond-false, gone_at cs rest (n + d.count) k p q c h.2 is slot, slot_parts)

pub exit_at : (cs rest : List Cell) (n k p : ℕ) (c : Cell) → Lined n cs → drop k cs ≡ c ∷ rest → has_slot c p ≡ true → exit cs p ≡ land (leave c p) rest
exit_at [] rest n zero p c h is slot = absurd (cc)
exit_at [] rest n (suc k) p c h is slot = absurd (cc)
exit_at (d ∷ cs) rest n zero p c h is slot = grind (arith, cond-true)
exit_at (d ∷ cs) rest n (suc k) p c h is slot =
    grind (arith, lined_later cs rest (n + d.count) k c h.2 is, slot_parts c p slot, cond-false, exit_at cs rest (n + d.count) k p c h.2 is slot, slot_parts)
