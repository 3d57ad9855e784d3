-- The runs that accept a file are the tracks whose slots take its bytes.
use Rattle.sig_auto.proofs.Common.{◌≡◌, ◌↔◌, ℕ, ◌<◌, ◌==◌, if◌then◌else◌, true, List, [], ◌∷◌, ◌++◌, append_assoc, subst, sym, ap, refl, arith, eq-eqb, ne_eqb}
use Rattle.sig_auto.proofs.Common.{is_first, is_last, follows, is_nullable, Accepts, Run, Steps, Accepting, Follows, Track, Tree, TakesAll}
use Rattle.sig_auto.proofs.LocalLemmas.{Chain, IsLocal, follows-slots, is_first-slot, local_track, track_ends, track_goes, track_local, track_slot}

-- behind the start a slot begins, behind another it goes
follows_start : (tree : Tree) (t front back : List ℕ) (q : ℕ) → Track tree 0 t → 0 ∷ t ≡ front ++ 0 ∷ q ∷ back → is_first tree 0 q ≡ true
follows_start tree t [] back q is e = grind (arith, track_local tree 0 (q ∷ back))
follows_start tree t (x ∷ front) back q is e = grind (arith, track_slot tree 0 0 front (q ∷ back))

follows_slot : (tree : Tree) (t front back : List ℕ) (p q : ℕ) → 0 < p → Track tree 0 t → 0 ∷ t ≡ front ++ p ∷ q ∷ back → follows tree 0 p q ≡ true
follows_slot tree t [] back p q some is e = grind arith
follows_slot tree t (x ∷ front) back p q some is e = grind (arith, track_goes tree 0 p q front back)

accepting_start : (tree : Tree) (t front : List ℕ) → Track tree 0 t → 0 ∷ t ≡ front ++ 0 ∷ [] → is_nullable tree ≡ true
accepting_start tree t [] is e = grind (arith, track_local tree 0 [])
accepting_start tree t (x ∷ front) is e = grind (arith, track_slot tree 0 0 front [])

accepting_slot : (tree : Tree) (t front : List ℕ) (p : ℕ) → 0 < p → Track tree 0 t → 0 ∷ t ≡ front ++ p ∷ [] → is_last tree 0 p ≡ true
accepting_slot tree t [] p some is e = grind arith
accepting_slot tree t (x ∷ front) p some is e = grind (arith, track_ends tree 0 p front)

-- the same by one test, with no premise on the tree
pub follows_shown : (tree : Tree) (p q : ℕ) → Follows tree p q → (if p == 0 then is_first tree 0 q else follows tree 0 p q) ≡ true
follows_shown tree p q f = grind (arith, eq-eqb, follows_start, ne_eqb, follows_slot)

pub accepting_shown : (tree : Tree) (p : ℕ) → Accepting tree p → (if p == 0 then is_nullable tree else is_last tree 0 p) ≡ true
accepting_shown tree p a = grind (arith, eq-eqb, accepting_start tree a.track a.front a.is_track, ne_eqb, accepting_slot tree a.track a.front p)

-- the last of one state is that state
pub only_last : (p last : ℕ) (front : List ℕ) → p ∷ [] ≡ front ++ last ∷ [] → last ≡ p
only_last p last [] e = cc
only_last p last (x ∷ []) e = absurd (cc)
only_last p last (x ∷ (y ∷ front)) e = absurd (cc)

-- the states behind a slot
steps_local : (tree : Tree) (p last : ℕ) (file states front : List ℕ) → 0 < p → Steps tree p file states → p ∷ states ≡ front ++ last ∷ [] → Accepting tree last
    → Chain tree 0 p states × TakesAll tree states file
steps_local tree p last [] [] front some steps e a = grind (arith, only_last p last front e, accepting_slot tree)
steps_local tree p last [] (q ∷ states) front some steps e a = absurd steps
steps_local tree p last (byte ∷ bytes) [] front some steps e a = absurd steps
steps_local tree p last (byte ∷ bytes) (q ∷ states) [] some steps e a = absurd (cc)
steps_local tree p last (byte ∷ bytes) (q ∷ states) (x ∷ front) some steps e a =
    grind (arith, follows_slot tree, follows-slots tree 0 p q, steps_local tree q last bytes states front)

-- and those behind the start
start_local : (tree : Tree) (last : ℕ) (file states front : List ℕ) → Steps tree 0 file states → 0 ∷ states ≡ front ++ last ∷ [] → Accepting tree last
    → IsLocal tree 0 states × TakesAll tree states file
start_local tree last [] [] front steps e a = grind (arith, only_last 0 last front e, accepting_start tree)
start_local tree last [] (q ∷ states) front steps e a = absurd steps
start_local tree last (byte ∷ bytes) [] front steps e a = absurd steps
start_local tree last (byte ∷ bytes) (q ∷ states) [] steps e a = absurd (cc)
start_local tree last (byte ∷ bytes) (q ∷ states) (x ∷ front) steps e a =
    grind (arith, follows_start tree, steps_local tree q last bytes states front, is_first-slot tree 0 q)

-- a run begins with the start
pub run_states : (tree : Tree) (file states : List ℕ) → Run tree file states → (behind : List ℕ) × (0 ∷ behind ≡ states) × Steps tree 0 file behind
run_states tree file [] run = absurd run
run_states tree file (p ∷ behind) run = (behind, sym (ap (λ x. x ∷ behind) run.0), subst (λ x. Steps tree x file behind) run.0 run.1)

-- a list that is not empty has a last
last_of : (p : ℕ) (t : List ℕ) → (front : List ℕ) × (last : ℕ) × (p ∷ t ≡ front ++ last ∷ [])
last_of p [] = ([], p, refl)
last_of p (q ∷ t) =
    let more = last_of q t in
    (p ∷ more.0, more.1, ap (λ l. p ∷ l) more.2)

-- a track's slots follow each other
steps_of : (tree : Tree) (track front : List ℕ) (p : ℕ) (t file : List ℕ) → Track tree 0 track → 0 ∷ track ≡ front ++ p ∷ t → TakesAll tree t file
    → Steps tree p file t
steps_of tree track front p [] [] is e takes = tt
steps_of tree track front p [] (byte ∷ bytes) is e takes = absurd takes
steps_of tree track front p (q ∷ t) [] is e takes = absurd takes
steps_of tree track front p (q ∷ t) (byte ∷ bytes) is e takes = grind (arith, append_assoc, steps_of tree track (front ++ p ∷ []) q t bytes is)

-- a file is accepted exactly where the slots of some track take its bytes
pub accepts_is_taken : (tree : Tree) (file : List ℕ) → Accepts tree file ↔ ((t : List ℕ) × Track tree 0 t × TakesAll tree t file)
accepts_is_taken tree file = (
  λ a.
      let states = run_states tree file (a.front ++ a.last ∷ []) a.run in
      let local = start_local tree a.last file states.0 a.front states.2 states.1 a.accepting in
      (states.0, local_track tree 0 states.0 local.0, local.1),
  λ taken.
      let last = last_of 0 taken.0 in
      record {
        front = last.0;
        last = last.1;
        run = subst (λ l. Run tree file l) last.2 (refl, steps_of tree taken.0 [] 0 taken.0 file taken.1 refl taken.2);
        accepting = record { track = taken.0; is_track = taken.1; front = last.0; last = last.2 };
      },
)
