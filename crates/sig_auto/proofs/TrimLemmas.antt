-- In a tree in which each slot stands in some track, the slots that begin, end and go next to each other do so in some track.
use Rattle.sig_auto.proofs.Common.{◌≡◌, ◌↔◌, Bool, false, ℕ, zero, suc, ◌+◌, ◌-◌, ◌≤◌, ◌==◌, if◌then◌else◌, true, List, [], ◌∷◌, ◌++◌, Option, Some, None}
use Rattle.sig_auto.proofs.Common.{append_assoc, subst, sym, ap, ◌∙◌, refl, inl, inr, arith, cases_eq, cases_lt, eq-eqb, ne_eqb, IsAtMost, gap_slots, is_first}
use Rattle.sig_auto.proofs.Common.{is_last, follows, is_nullable, Accepting, Follows, slots_from, Track, Tree, Never, Empty, Slot, Gap, Then, Or, slots_of}
use Rattle.sig_auto.proofs.Common.{HasTrack, IsTrim}
use Rattle.sig_auto.proofs.LocalLemmas.{Chain, Chain-or_left, Chain-or_left_from, Chain-or_right, Chain-or_right_from, Chain-then, Chain-then_cut}
use Rattle.sig_auto.proofs.LocalLemmas.{Chain-then_right, Chain-then_right_from, IsLocal, IsLocal-or_left, IsLocal-or_right, IsLocal-then, IsSlot}
use Rattle.sig_auto.proofs.LocalLemmas.{is_first-slot, is_last-slot, gap_begins, gap_climb, gap_ends-from, gap_local_none, gap_local_some, gap_next}
use Rattle.sig_auto.proofs.LocalLemmas.{follows-slots, local_track}
use Rattle.sig_auto.proofs.RunLemmas.{accepting_shown, follows_shown}

-- a tree that has a track
has_local : (tree : Tree) (before : ℕ) → HasTrack tree → (t : List ℕ) × IsLocal tree before t
has_local Never before h = absurd h
has_local Empty before h = ([], refl)
has_local (Slot c) before h = ((before + 1) ∷ [], (eq-eqb (before + 1) (before + 1) refl, eq-eqb (before + 1) (before + 1) refl))
has_local (Gap min None) before h = (_, gap_local_none min before 0)
has_local (Gap min (Some max)) before h = (_, gap_local_some min max before min (omega arith) h)
has_local (Then a b) before h =
    let u = has_local a before h.0 in
    let v = has_local b (before + slots_of a) h.1 in
    (u.0 ++ v.0, IsLocal-then a b before u.0 v.0 u.1 v.1)
has_local (Or a b) before h = grind (arith, IsLocal-or_left, IsLocal-or_right, has_local a before, has_local b (before + slots_of a))

-- a gap whose least length is not above its greatest has as many slots
gap_least : (min : ℕ) (max : Option ℕ) → IsAtMost max min → min ≤ gap_slots min max
gap_least min None h = omega arith
gap_least min (Some max) h = h

-- the slots of a gap before p
gap_reach : (min : ℕ) (max : Option ℕ) (before n p : ℕ) (v : List ℕ) → before + 1 + n ≡ p → p ≤ before + gap_slots min max → Chain (Gap min max) before p v
    → IsLocal (Gap min max) before (slots_from (before + 1) n ++ p ∷ v)
gap_reach min max before zero p v is high h = grind (arith, gap_begins min max before)
gap_reach min max before (suc m) p v is high h = grind (arith, gap_next, gap_begins, gap_climb)

-- some slots come before p, whatever comes behind it
reach : (tree : Tree) (before p : ℕ) → IsTrim tree → IsSlot tree before p → (u : List ℕ)
    × ((v : List ℕ) → Chain tree before p v → IsLocal tree before (u ++ p ∷ v))
reach Never before p trim slot = absurd (omega arith)
reach Empty before p trim slot = absurd (omega arith)
reach (Slot c) before p trim slot = grind (arith, eq-eqb)
reach (Gap min max) before p trim slot =
    let same : before + 1 + (p - (before + 1)) ≡ p = omega arith in
    (slots_from (before + 1) (p - (before + 1)), λ v h. gap_reach min max before (p - (before + 1)) p v same slot.1 h)
reach (Then a b) before p trim slot =
    elim (cases_lt (before + slots_of a) p) [
      | inl high ↦
          let w = has_local a before trim.2 in
          let r = reach b (before + slots_of a) p trim.1 (high, omega arith) in (
            w.0 ++ r.0,
            λ v h. grind (arith, append_assoc, IsLocal-then, Chain-then_right_from),
          )
      | inr low ↦
          let r = reach a before p trim.0 (slot.0, low) in (
            r.0,
            λ v h.
                let cut = Chain-then_cut a b before p v low h in
                let joined : (r.0 ++ p ∷ cut.0) ++ cut.1 ≡ r.0 ++ p ∷ v = append_assoc r.0 (p ∷ cut.0) cut.1 ∙ ap (λ l. r.0 ++ p ∷ l) (sym cut.2) in
                subst (λ l. IsLocal (Then a b) before l) joined
                (IsLocal-then a b before (r.0 ++ p ∷ cut.0) cut.1 (r.1 cut.0 cut.3) cut.4),
          )
    ]
reach (Or a b) before p trim slot =
    grind (
      arith,
      IsLocal-or_right a b before,
      Chain-or_right_from a b before p,
      IsLocal-or_left a b before,
      Chain-or_left_from a b before p,
      reach b (before + slots_of a) p trim.1,
      reach a before p trim.0,
    )

-- some slots come behind p, up to an end
pub goes_on : (tree : Tree) (before p : ℕ) → IsTrim tree → IsSlot tree before p → (v : List ℕ) × Chain tree before p v
goes_on Never before p trim slot = absurd (omega arith)
goes_on Empty before p trim slot = absurd (omega arith)
goes_on (Slot c) before p trim slot = ([], eq-eqb p (before + 1) (omega arith))
goes_on (Gap min max) before p trim slot =
    let least = gap_least min max trim in
    let n : ℕ = (before + min) - p in (
      slots_from (p + 1) n ++ [],
      gap_climb min max before p n [] slot.0 (omega arith) (gap_ends-from min max before (p + n) (omega arith) (omega arith) (omega arith)),
    )
goes_on (Then a b) before p trim slot =
    elim (cases_lt (before + slots_of a) p) [
      | inl high ↦ grind (arith, Chain-then_right, goes_on b (before + slots_of a) p trim.1)
      | inr low ↦
          let r = goes_on a before p trim.0 (slot.0, low) in
          let w = has_local b (before + slots_of a) trim.3 in
          (r.0 ++ w.0, Chain-then a b before p r.0 w.0 r.1 w.1)
    ]
goes_on (Or a b) before p trim slot = grind (arith, Chain-or_right, Chain-or_left, goes_on b (before + slots_of a) p trim.1, goes_on a before p trim.0)

-- the tests find tracks
pub begins_track : (tree : Tree) (before q : ℕ) → IsTrim tree → is_first tree before q ≡ true → (v : List ℕ) × Track tree before (q ∷ v)
begins_track tree before q trim h = grind (
  arith,
  goes_on tree before q trim (is_first-slot tree before q h),
  is_first-slot tree before q h,
  local_track tree before,
)

pub ends_track : (tree : Tree) (before p : ℕ) → IsTrim tree → is_last tree before p ≡ true → (u : List ℕ) × Track tree before (u ++ p ∷ [])
ends_track tree before p trim h = grind (arith, reach tree before p trim (is_last-slot tree before p h), is_last-slot tree before p h, local_track tree before)

pub goes_track : (tree : Tree) (before p q : ℕ) → IsTrim tree → follows tree before p q ≡ true → (u v : List ℕ) × Track tree before (u ++ p ∷ q ∷ v)
goes_track tree before p q trim h = grind (
  arith,
  follows-slots tree before p q h,
  reach tree before p trim,
  goes_on tree before q trim,
  local_track tree before,
)

-- the test of two states is whether one follows the other
pub follows_exact : (tree : Tree) → IsTrim tree → (p q : ℕ) → ((if p == 0 then is_first tree 0 q else follows tree 0 p q) ≡ true) ↔ Follows tree p q
follows_exact tree trim p q = (
  λ h. elim (cases_eq p 0) [
    | inl start ↦
        let found = begins_track tree 0 q trim (rw (eq-eqb p 0 start) at h) in
        subst (λ x. Follows tree x q) (sym start) (record { track = q ∷ found.0; is_track = found.1; front = []; back = found.0; next = refl })
    | inr other ↦
        let found = goes_track tree 0 p q trim (rw (ne_eqb p 0 other) at h) in
        record { track = found.0 ++ p ∷ q ∷ found.1; is_track = found.2; front = 0 ∷ found.0; back = found.1; next = refl }
  ],
  follows_shown tree p q,
)

-- and the test of one, whether it accepts
pub accepting_exact : (tree : Tree) → IsTrim tree → (p : ℕ) → ((if p == 0 then is_nullable tree else is_last tree 0 p) ≡ true) ↔ Accepting tree p
accepting_exact tree trim p = (
  λ h. elim (cases_eq p 0) [
    | inl start ↦
        let is : is_nullable tree ≡ true = rw (eq-eqb p 0 start) at h in
        subst (λ x. Accepting tree x) (sym start) (record { track = []; is_track = local_track tree 0 [] is; front = []; last = refl })
    | inr other ↦
        let found = ends_track tree 0 p trim (rw (ne_eqb p 0 other) at h) in
        record { track = found.0 ++ p ∷ []; is_track = found.1; front = 0 ∷ found.0; last = refl }
  ],
  accepting_shown tree p,
)

-- the same for an answer of the code, at the start and at a slot
pub follows_start : (tree : Tree) → IsTrim tree → (p q : ℕ) (b : Bool) → p ≡ 0 → b ≡ is_first tree 0 q → (b ≡ true) ↔ Follows tree p q
follows_start tree trim p q b start is = rw start (rw is (follows_exact tree trim 0 q))

pub follows_slot : (tree : Tree) → IsTrim tree → (p q : ℕ) (b : Bool) → (p == 0) ≡ false → b ≡ follows tree 0 p q → (b ≡ true) ↔ Follows tree p q
follows_slot tree trim p q b slot is = let law = follows_exact tree trim p q in rw is (simp slot at law)

pub accepting_slot : (tree : Tree) → IsTrim tree → (p : ℕ) (b : Bool) → (p == 0) ≡ false → b ≡ is_last tree 0 p → (b ≡ true) ↔ Accepting tree p
accepting_slot tree trim p b slot is = let law = accepting_exact tree trim p in rw is (simp slot at law)
