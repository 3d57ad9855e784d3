-- The tracks of a tree are the lists whose first slot begins, whose neighbours go next to each other, and whose last slot ends.
use Rattle.sig_auto.proofs.Common.{◌||◌, ◌≡◌, ◌⊎◌, ◌↔◌, ℕ, zero, suc, ◌+◌, ◌<◌, ◌≤◌, ◌==◌, Bool, true, nat_lt, List, [], ◌∷◌, ◌++◌, replicate, Option, Some}
use Rattle.sig_auto.proofs.Common.{None, subst, sym, ap, ◌∙◌, refl, inl, inr, arith, and_from, and_parts, cases_lt, eq-eqb, eqb-true, false≢true, le-leb}
use Rattle.sig_auto.proofs.Common.{leb-true, lt-ltb, ltb-true, or_cases, or_left, or_right, append-nil, is_first, is_last, follows, is_nullable, slots_from}
use Rattle.sig_auto.proofs.Common.{Track, Tree, Never, Empty, Slot, Gap, Then, Or, slots_of, gap_slots}

-- behind p these slots may stand, up to the end of a track
abbrev pub Chain : Tree → ℕ → ℕ → List ℕ → Type 0
Chain tree before p [] = is_last tree before p ≡ true
Chain tree before p (q ∷ t) = (follows tree before p q ≡ true) × Chain tree before q t

-- the first slot begins, and the others follow it; where there is none, the tree may be skipped
abbrev pub IsLocal : Tree → ℕ → List ℕ → Type 0
IsLocal tree before [] = is_nullable tree ≡ true
IsLocal tree before (q ∷ t) = (is_first tree before q ≡ true) × Chain tree before q t

-- q is a slot of the tree
abbrev pub IsSlot : Tree → ℕ → ℕ → Type 0
IsSlot tree before q = (before < q) × (q ≤ before + slots_of tree)

wide_left : (before x y q : ℕ) → (before < q) × (q ≤ before + x) → (before < q) × (q ≤ before + (x + y))
wide_left before x y q h = (h.0, omega arith)

wide_right : (before x y q : ℕ) → (before + x < q) × (q ≤ before + x + y) → (before < q) × (q ≤ before + (x + y))
wide_right before x y q h = (omega arith, omega arith)

-- the tests of a gap
pub gap_ends : (min : ℕ) (max : Option ℕ) (before p : ℕ) → is_last (Gap min max) before p ≡ true → (before < p) × (before + min ≤ p)
    × (p ≤ before + gap_slots min max)
gap_ends min max before p h = grind (arith, and_parts, ltb-true, leb-true)

pub gap_ends-from : (min : ℕ) (max : Option ℕ) (before p : ℕ) → before < p → before + min ≤ p → p ≤ before + gap_slots min max
    → is_last (Gap min max) before p ≡ true
gap_ends-from min max before p low least greatest = grind (arith, and_from, lt-ltb, le-leb)

pub gap_goes_none : (min before p q : ℕ) → follows (Gap min None) before p q ≡ true → ((before < p) × (p < before + (min + 1)) × (q ≡ p + 1))
    ⊎ ((p ≡ before + min + 1) × (q ≡ p))
gap_goes_none min before p q h = grind (arith, or_cases, and_parts, eqb-true, ltb-true)

pub gap_goes_some : (min max before p q : ℕ) → follows (Gap min (Some max)) before p q ≡ true → (before < p) × (p < before + max) × (q ≡ p + 1)
gap_goes_some min max before p q h = grind (arith, or_cases, false≢true, and_parts, ltb-true, eqb-true)

pub gap_next : (min : ℕ) (max : Option ℕ) (before p : ℕ) → before < p → p < before + gap_slots min max → follows (Gap min max) before p (p + 1) ≡ true
gap_next min max before p low high = grind (arith, or_left, and_from, lt-ltb, eq-eqb)

-- ---- what begins, ends and goes in two branches

pub either : (x y : Bool) → ((x || y) ≡ true) ↔ ((x ≡ true) ⊎ (y ≡ true))
either x y = (or_cases x y, λ h. elim h [ inl one ↦ or_left x y one | inr other ↦ or_right x y other ])

pub first_then : (a b : Tree) (before q : ℕ) → (is_first (Then a b) before q ≡ true)
    ↔ ((is_first a before q ≡ true) ⊎ ((is_nullable a ≡ true) × (is_first b (before + slots_of a) q ≡ true)))
first_then a b before q = grind (arith, either (is_first a before q), and_parts, and_from)

pub first_or : (a b : Tree) (before q : ℕ) → (is_first (Or a b) before q ≡ true) ↔ ((is_first a before q ≡ true) ⊎ (is_first b (before + slots_of a) q ≡ true))
first_or a b before q = either (is_first a before q) (is_first b (before + slots_of a) q)

pub follows_then : (a b : Tree) (before p q : ℕ) → (follows (Then a b) before p q ≡ true)
    ↔ ((follows a before p q ≡ true) ⊎ ((follows b (before + slots_of a) p q ≡ true)
    ⊎ ((is_last a before p ≡ true) × (is_first b (before + slots_of a) q ≡ true))))
follows_then a b before p q = grind (arith, either, and_parts, and_from)

-- the slots that begin, end and go are slots of the tree
pub is_first-slot : (tree : Tree) (before q : ℕ) → is_first tree before q ≡ true → IsSlot tree before q
is_first-slot Never before q h = absurd (false≢true h)
is_first-slot Empty before q h = absurd (false≢true h)
is_first-slot (Slot c) before q h = let e = eqb-true q (before + 1) h in (omega arith, omega arith)
is_first-slot (Gap min max) before q h = grind (arith, and_parts, ltb-true, eqb-true)
is_first-slot (Then a b) before q h =
    grind (
      arith,
      first_then a b before q,
      wide_left before (slots_of a) (slots_of b) q,
      wide_right before (slots_of a) (slots_of b) q,
      is_first-slot a before q,
      is_first-slot b (before + slots_of a) q,
    )
is_first-slot (Or a b) before q h = grind (arith, first_or, wide_left, wide_right, is_first-slot a before q, is_first-slot b (before + slots_of a) q)

pub is_last-slot : (tree : Tree) (before p : ℕ) → is_last tree before p ≡ true → IsSlot tree before p
is_last-slot Never before p h = absurd (false≢true h)
is_last-slot Empty before p h = absurd (false≢true h)
is_last-slot (Slot c) before p h = let e = eqb-true p (before + 1) h in (omega arith, omega arith)
is_last-slot (Gap min max) before p h = let is = gap_ends min max before p h in (is.0, is.2)
is_last-slot (Then a b) before p h = grind (
  arith,
  wide_left,
  wide_right,
  is_last-slot a before p,
  is_last-slot b (before + slots_of a) p,
  either,
  and_parts,
  and_from,
)
is_last-slot (Or a b) before p h = grind (
  arith,
  wide_left,
  wide_right,
  is_last-slot a before p,
  is_last-slot b (before + slots_of a) p,
  either,
  is_last,
  slots_of,
)

pub follows-slots : (tree : Tree) (before p q : ℕ) → follows tree before p q ≡ true → IsSlot tree before p × IsSlot tree before q
follows-slots Never before p q h = absurd (false≢true h)
follows-slots Empty before p q h = absurd (false≢true h)
follows-slots (Slot c) before p q h = absurd (false≢true h)
follows-slots (Gap min None) before p q h = grind (arith, gap_goes_none min before p q h)
follows-slots (Gap min (Some max)) before p q h = grind (arith, gap_goes_some min max before p q h)
follows-slots (Then a b) before p q h =
    grind (
      arith,
      follows_then a b before p q,
      wide_left before (slots_of a) (slots_of b) p,
      wide_left before (slots_of a) (slots_of b) q,
      wide_right before (slots_of a) (slots_of b) p,
      wide_right before (slots_of a) (slots_of b) q,
      is_last-slot a before p,
      is_first-slot b (before + slots_of a) q,
      follows-slots a before p q,
      follows-slots b (before + slots_of a) p q,
    )
follows-slots (Or a b) before p q h =
    grind (
      arith,
      wide_left before (slots_of a) (slots_of b) p,
      wide_left before (slots_of a) (slots_of b) q,
      wide_right before (slots_of a) (slots_of b) p,
      wide_right before (slots_of a) (slots_of b) q,
      follows-slots a before p q,
      follows-slots b (before + slots_of a) p q,
      either,
      follows,
      slots_of,
    )

-- a branch's chains are the tree's
pub Chain-or_left : (a b : Tree) (before p : ℕ) (t : List ℕ) → Chain a before p t → Chain (Or a b) before p t
Chain-or_left a b before p [] h = grind (arith, either, is_last, slots_of)
Chain-or_left a b before p (q ∷ t) h = grind (arith, Chain-or_left a b before q t h.1, either, follows, slots_of)

pub Chain-or_right : (a b : Tree) (before p : ℕ) (t : List ℕ) → Chain b (before + slots_of a) p t → Chain (Or a b) before p t
Chain-or_right a b before p [] h = grind (arith, either, is_last, slots_of)
Chain-or_right a b before p (q ∷ t) h = grind (arith, Chain-or_right a b before q t h.1, either, follows, slots_of)

pub Chain-then_right : (a b : Tree) (before p : ℕ) (t : List ℕ) → Chain b (before + slots_of a) p t → Chain (Then a b) before p t
Chain-then_right a b before p [] h = grind (arith, either, and_parts, and_from)
Chain-then_right a b before p (q ∷ t) h = grind (arith, follows_then a b before p q, Chain-then_right a b before q t h.1)

-- a chain of the first branch, and then a list of the second
pub Chain-then : (a b : Tree) (before p : ℕ) (u v : List ℕ) → Chain a before p u → IsLocal b (before + slots_of a) v → Chain (Then a b) before p (u ++ v)
Chain-then a b before p [] [] h k = grind (arith, either, and_parts, and_from)
Chain-then a b before p [] (q ∷ v) h k = grind (arith, follows_then a b before p q, Chain-then_right a b before q v k.1)
Chain-then a b before p (q ∷ u) v h k = grind (arith, follows_then a b before p q, Chain-then a b before q u v h.1 k)

-- the same for whole lists
pub IsLocal-or_left : (a b : Tree) (before : ℕ) (t : List ℕ) → IsLocal a before t → IsLocal (Or a b) before t
IsLocal-or_left a b before [] h = (either (is_nullable a) (is_nullable b)).1 (inl h)
IsLocal-or_left a b before (q ∷ t) h = ((first_or a b before q).1 (inl h.0), Chain-or_left a b before q t h.1)

pub IsLocal-or_right : (a b : Tree) (before : ℕ) (t : List ℕ) → IsLocal b (before + slots_of a) t → IsLocal (Or a b) before t
IsLocal-or_right a b before [] h = (either (is_nullable a) (is_nullable b)).1 (inr h)
IsLocal-or_right a b before (q ∷ t) h = ((first_or a b before q).1 (inr h.0), Chain-or_right a b before q t h.1)

pub IsLocal-then : (a b : Tree) (before : ℕ) (u v : List ℕ) → IsLocal a before u → IsLocal b (before + slots_of a) v → IsLocal (Then a b) before (u ++ v)
IsLocal-then a b before [] [] h k = grind (arith, is_nullable a, is_nullable b, and_parts, and_from)
IsLocal-then a b before [] (q ∷ v) h k = grind (arith, first_then a b before q, Chain-then_right a b before q v k.1)
IsLocal-then a b before (q ∷ u) v h k = ((first_then a b before q).1 (inl h.0), Chain-then a b before q u v h.1 k)

-- the last slot of a gap with no greatest length follows itself, as often as there are bytes
gap_stay : (min before k : ℕ) → Chain (Gap min None) before (before + min + 1) (replicate k (before + min + 1))
gap_stay min before zero = gap_ends-from min None before (before + min + 1) (omega arith) (omega arith) (omega arith)
gap_stay min before (suc k) = grind (arith, gap_stay min before k, or_right, and_from, eq-eqb)

gap_tail : (min before k : ℕ) → 0 < min → Chain (Gap min None) before (before + min) (replicate k (before + min + 1))
gap_tail min before zero some = gap_ends-from min None before (before + min) (omega arith) (omega arith) (omega arith)
gap_tail min before (suc k) some = (gap_next min None before (before + min) (omega arith) (omega arith), gap_stay min before k)

-- the slots of a gap follow each other
pub gap_climb : (min : ℕ) (max : Option ℕ) (before p n : ℕ) (rest : List ℕ) → before < p → p + n ≤ before + gap_slots min max
    → Chain (Gap min max) before (p + n) rest → Chain (Gap min max) before p (slots_from (p + 1) n ++ rest)
gap_climb min max before p zero rest low high h = grind arith
gap_climb min max before p (suc n) rest low high h = grind (arith, gap_next min max before p low, gap_climb min max before (p + 1) n rest)

pub gap_begins : (min : ℕ) (max : Option ℕ) (before : ℕ) → 0 < gap_slots min max → is_first (Gap min max) before (before + 1) ≡ true
gap_begins min max before some = grind (arith, and_from, lt-ltb, eq-eqb)

pub gap_local_none : (min before k : ℕ) → IsLocal (Gap min None) before (slots_from (before + 1) min ++ replicate k (before + min + 1))
gap_local_none zero before zero = refl
gap_local_none zero before (suc k) = grind (arith, gap_begins 0 None before, gap_stay 0 before k)
gap_local_none (suc m) before k = grind (
  arith,
  gap_begins (suc m) None before,
  gap_climb (suc m) None before (before + 1) m (replicate k (before + suc m + 1)),
  gap_tail (suc m) before k,
)

pub gap_local_some : (min max before k : ℕ) → min ≤ k → k ≤ max → IsLocal (Gap min (Some max)) before (slots_from (before + 1) k)
gap_local_some min max before zero least greatest = eq-eqb min 0 (omega arith)
gap_local_some min max before (suc n) least greatest =
    grind (
      arith,
      gap_begins min (Some max) before,
      append-nil,
      gap_climb min (Some max) before (before + 1) n [],
      gap_ends-from min (Some max) before (before + 1 + n),
    )

-- a track begins, goes on and ends so
pub track_local : (tree : Tree) (before : ℕ) (t : List ℕ) → Track tree before t → IsLocal tree before t
track_local Never before t h = absurd h
track_local Empty before t h = subst (λ l. IsLocal Empty before l) (sym h) refl
track_local (Slot c) before t h = subst (λ l. IsLocal (Slot c) before l) (sym h) (eq-eqb (before + 1) (before + 1) refl, eq-eqb (before + 1) (before + 1) refl)
track_local (Gap min None) before t h = subst (λ l. IsLocal (Gap min None) before l) (sym h.1) (gap_local_none min before h.0)
track_local (Gap min (Some max)) before t h = subst (λ l. IsLocal (Gap min (Some max)) before l) (sym h.3) (gap_local_some min max before h.0 h.1 h.2)
track_local (Then a b) before t h = subst (λ l. IsLocal (Then a b) before l) (sym h.2)
    (IsLocal-then a b before h.0 h.1 (track_local a before h.0 h.3) (track_local b (before + slots_of a) h.1 h.4))
track_local (Or a b) before t h = grind (arith, IsLocal-or_left, IsLocal-or_right, track_local a before t, track_local b (before + slots_of a) t)

-- the chains of a gap are its slots in order
gap_chain_some : (min max before p : ℕ) (t : List ℕ) → Chain (Gap min (Some max)) before p t → (n : ℕ) × (before + min ≤ p + n) × (p + n ≤ before + max)
    × (t ≡ slots_from (p + 1) n)
gap_chain_some min max before p [] h = grind (arith, gap_ends min (Some max) before p h)
gap_chain_some min max before p (q ∷ t) h =
    let step = gap_goes_some min max before p q h.0 in
    let next : q ≡ p + 1 = step.2 in
    let more = gap_chain_some min max before q t h.1 in
    let rest : t ≡ slots_from (p + 1 + 1) more.0 = subst (λ x. t ≡ slots_from (x + 1) more.0) next more.3 in
    (suc more.0, omega arith, omega arith, cc)

gap_chain_stay : (min before : ℕ) (t : List ℕ) → Chain (Gap min None) before (before + min + 1) t → (k : ℕ) × (t ≡ replicate k (before + min + 1))
gap_chain_stay min before [] h = (0, refl)
gap_chain_stay min before (q ∷ t) h =
    elim (gap_goes_none min before (before + min + 1) q h.0) [
      | inl step ↦ absurd (omega arith)
      | inr stay ↦
          let same : q ≡ before + min + 1 = stay.1 in
          let more = gap_chain_stay min before t (subst (λ x. Chain (Gap min None) before x t) same h.1) in
          let rest : t ≡ replicate more.0 (before + min + 1) = more.1 in
          (suc more.0, cc)
    ]

gap_chain_none : (min before p : ℕ) (t : List ℕ) → p ≤ before + min → Chain (Gap min None) before p t → (n k : ℕ) × (p + n ≡ before + min)
    × (t ≡ slots_from (p + 1) n ++ replicate k (before + min + 1))
gap_chain_none min before p [] low h =
    let is = gap_ends min None before p h in
    (0, 0, omega arith, refl)
gap_chain_none min before p (q ∷ t) low h =
    elim (gap_goes_none min before p q h.0) [
      | inl step ↦
          let next : q ≡ p + 1 = step.2 in
          elim (cases_lt p (before + min)) [
            | inl inside ↦
                let more = gap_chain_none min before q t (omega arith) h.1 in
                let sum : q + more.0 ≡ before + min = more.2 in
                let rest : t ≡ slots_from (p + 1 + 1) more.0 ++ replicate more.1 (before + min + 1) =
                subst (λ x. t ≡ slots_from (x + 1) more.0 ++ replicate more.1 (before + min + 1)) next more.3 in
                (suc more.0, more.1, omega arith, cc)
            | inr last ↦
                let same : q ≡ before + min + 1 = omega arith in
                let more = gap_chain_stay min before t (subst (λ x. Chain (Gap min None) before x t) same h.1) in
                let rest : t ≡ replicate more.0 (before + min + 1) = more.1 in
                (0, suc more.0, omega arith, cc)
          ]
      | inr stay ↦ absurd (omega arith)
    ]

-- a chain of the tree from a branch's slot stays there
pub Chain-or_left_from : (a b : Tree) (before p : ℕ) (t : List ℕ) → p ≤ before + slots_of a → Chain (Or a b) before p t → Chain a before p t
Chain-or_left_from a b before p [] low h = grind (arith, is_last-slot b (before + slots_of a) p, either, is_last, slots_of)
Chain-or_left_from a b before p (q ∷ t) low h = grind (arith, follows-slots, Chain-or_left_from a b before q t, either, follows, slots_of)

pub Chain-or_right_from : (a b : Tree) (before p : ℕ) (t : List ℕ) → before + slots_of a < p → Chain (Or a b) before p t → Chain b (before + slots_of a) p t
Chain-or_right_from a b before p [] high h = grind (arith, is_last-slot a before p, either, is_last, slots_of)
Chain-or_right_from a b before p (q ∷ t) high h = grind (arith, follows-slots, Chain-or_right_from a b before q t, either, follows, slots_of)

pub Chain-then_right_from : (a b : Tree) (before p : ℕ) (t : List ℕ) → before + slots_of a < p → Chain (Then a b) before p t → Chain b (before + slots_of a) p t
Chain-then_right_from a b before p [] high h = grind (arith, is_last-slot a before p, either, and_parts, and_from)
Chain-then_right_from a b before p (q ∷ t) high h = grind (arith, follows_then, follows-slots, is_last-slot, Chain-then_right_from a b before q t)

-- a chain from a slot of the first branch is one of that branch, and then a list of the second
pub Chain-then_cut : (a b : Tree) (before p : ℕ) (t : List ℕ) → p ≤ before + slots_of a → Chain (Then a b) before p t → (u v : List ℕ) × (t ≡ u ++ v)
    × Chain a before p u × IsLocal b (before + slots_of a) v
Chain-then_cut a b before p [] low h = grind (arith, is_last-slot b (before + slots_of a) p, either, and_parts, and_from)
Chain-then_cut a b before p (q ∷ t) low h =
    elim ((follows_then a b before p q).0 h.0) [
      | inl first ↦
          let more = Chain-then_cut a b before q t (follows-slots a before p q first).1.1 h.1 in
          (q ∷ more.0, more.1, ap (λ l. q ∷ l) more.2, (first, more.3), more.4)
      | inr other ↦ grind (arith, follows-slots, Chain-then_right_from, is_first-slot)
    ]

-- and each such list is a track
pub local_track : (tree : Tree) (before : ℕ) (t : List ℕ) → IsLocal tree before t → Track tree before t
local_track Never before [] h = false≢true h
local_track Never before (q ∷ t) h = false≢true h.0
local_track Empty before [] h = refl
local_track Empty before (q ∷ t) h = absurd (false≢true h.0)
local_track (Slot c) before [] h = absurd (false≢true h)
local_track (Slot c) before (q ∷ []) h = ap (λ x. x ∷ []) (eqb-true q (before + 1) h.0)
local_track (Slot c) before (q ∷ (r ∷ t)) h = absurd (false≢true h.1.0)
local_track (Gap min None) before [] h = grind (arith, eqb-true)
local_track (Gap zero None) before (q ∷ t) h = grind (arith, eqb-true, and_parts, gap_chain_stay)
local_track (Gap (suc m) None) before (q ∷ t) h = grind (arith, eqb-true, and_parts, gap_chain_none (suc m) before q t)
local_track (Gap min (Some max)) before [] h = grind (arith, eqb-true)
local_track (Gap min (Some max)) before (q ∷ t) h =
    let is : q ≡ before + 1 = eqb-true q (before + 1) (and_parts (nat_lt 0 (gap_slots min (Some max))) (q == before + 1) h.0).1 in
    let more = gap_chain_some min max before q t h.1 in
    let rest : t ≡ slots_from (before + 1 + 1) more.0 = more.3 ∙ ap (λ x. slots_from (x + 1) more.0) is in
    (suc more.0, omega arith, omega arith, cc)
local_track (Then a b) before [] h = grind (arith, local_track a before [], local_track b (before + slots_of a) [], and_parts, and_from)
local_track (Then a b) before (q ∷ t) h =
    elim ((first_then a b before q).0 h.0) [
      | inl first ↦
          let cut = Chain-then_cut a b before q t (is_first-slot a before q first).1 h.1 in
          (q ∷ cut.0, cut.1, ap (λ l. q ∷ l) cut.2, local_track a before (q ∷ cut.0) (first, cut.3), local_track b (before + slots_of a) cut.1 cut.4)
      | inr second ↦ grind (arith, Chain-then_right_from, is_first-slot, local_track a before [] second.0, local_track b (before + slots_of a) (q ∷ t))
    ]
local_track (Or a b) before [] h = grind (arith, either, local_track a before [], local_track b (before + slots_of a) [])
local_track (Or a b) before (q ∷ t) h =
    grind (
      arith,
      first_or a b before q,
      Chain-or_left_from a b before q t,
      is_first-slot a before q,
      is_first-slot b (before + slots_of a) q,
      Chain-or_right_from a b before q t,
      local_track a before (q ∷ t),
      local_track b (before + slots_of a) (q ∷ t),
    )

-- what a track shows
Chain-is_last : (tree : Tree) (before x p : ℕ) (u : List ℕ) → Chain tree before x (u ++ p ∷ []) → is_last tree before p ≡ true
Chain-is_last tree before x p [] h = h.1
Chain-is_last tree before x p (y ∷ u) h = Chain-is_last tree before y p u h.1

pub track_ends : (tree : Tree) (before p : ℕ) (u : List ℕ) → Track tree before (u ++ p ∷ []) → is_last tree before p ≡ true
track_ends tree before p [] h = (track_local tree before (p ∷ []) h).1
track_ends tree before p (y ∷ u) h = Chain-is_last tree before y p u (track_local tree before (y ∷ u ++ p ∷ []) h).1

Chain-follows : (tree : Tree) (before x p q : ℕ) (u v : List ℕ) → Chain tree before x (u ++ p ∷ q ∷ v) → follows tree before p q ≡ true
Chain-follows tree before x p q [] v h = h.1.0
Chain-follows tree before x p q (y ∷ u) v h = Chain-follows tree before y p q u v h.1

pub track_goes : (tree : Tree) (before p q : ℕ) (u v : List ℕ) → Track tree before (u ++ p ∷ q ∷ v) → follows tree before p q ≡ true
track_goes tree before p q [] v h = (track_local tree before (p ∷ q ∷ v) h).1.0
track_goes tree before p q (y ∷ u) v h = Chain-follows tree before y p q u v (track_local tree before (y ∷ u ++ p ∷ q ∷ v) h).1

Chain-slot : (tree : Tree) (before x p : ℕ) (u v : List ℕ) → Chain tree before x (u ++ p ∷ v) → IsSlot tree before p
Chain-slot tree before x p [] v h = (follows-slots tree before x p h.0).1
Chain-slot tree before x p (y ∷ u) v h = Chain-slot tree before y p u v h.1

pub track_slot : (tree : Tree) (before p : ℕ) (u v : List ℕ) → Track tree before (u ++ p ∷ v) → IsSlot tree before p
track_slot tree before p [] v h = is_first-slot tree before p (track_local tree before (p ∷ v) h).0
track_slot tree before p (y ∷ u) v h = Chain-slot tree before y p u v (track_local tree before (y ∷ u ++ p ∷ v) h).1
