-- The laws of the automaton, for proofs of other crates.
use Rattle.sig_auto.proofs.Common.{◌≡◌, ◌↔◌, ◌⊎◌, ℕ, ◌+◌, ◌<◌, ◌≤◌, List, [], ◌∷◌, ◌++◌, inl, inr, arith, Accepts, EndsIn, IsStepOf, Accepting, Follows, Tree}
use Rattle.sig_auto.proofs.Common.{whole_tree, Takes, slots_of, IsBytes, slot_count, Stands, IsSequence, SequenceView}
use Rattle.sig_auto.proofs.EndLemmas.{begin_only, ends_before, ends_further, last_is_slot, next_is_slot}
use Rattle.sig_auto.proofs.EndOrNotLemmas.{accepting_or_not, ends_or_not, some_or_none, step_or_not}
use Rattle.sig_auto.proofs.RunLemmas.{accepts_is_taken, run_states}
use Rattle.sig_auto.proofs.TakenLemmas.{taken_is_word}
use Rattle.sig_auto.proofs.WholeLemmas.{whole_is_trim, whole_slots}
use Rattle.sig_auto.proofs.WordLemmas.{word_is_unfolded}

-- some run of a file accepts exactly where the sequence stands in the file
pub runs_accept_what_stands : (s : SequenceView) (file : List ℕ) → IsSequence s → IsBytes file → Accepts (whole_tree s) file ↔ Stands s file
runs_accept_what_stands s file sequence bytes = grind (
  arith,
  accepts_is_taken (whole_tree s) file,
  taken_is_word (whole_tree s) file,
  word_is_unfolded s file sequence bytes,
)

-- an automaton has as many slots as the limit of a sequence counts
pub slots_are_counted : (s : SequenceView) → IsSequence s → slots_of (whole_tree s) ≡ slot_count s
slots_are_counted = whole_slots

-- the runs of the empty file end in the start alone
pub runs_begin : (tree : Tree) (q : ℕ) → EndsIn tree [] q ↔ (q ≡ 0)
runs_begin tree q = (λ ends. begin_only tree q ends.front ends.run, λ start. record { front = []; run = (start, tt) })

-- the runs of a file and one more byte go on from those of the file
pub runs_go_on : (tree : Tree) (file : List ℕ) (b q : ℕ) → EndsIn tree (file ++ b ∷ []) q ↔ ((p : ℕ) × EndsIn tree file p × Follows tree p q × Takes tree q b)
runs_go_on tree file b q = (ends_before tree file b q, λ h. ends_further tree file h.0 b q h.1 h.2 h.3)

-- a file is accepted exactly where some run of it ends in an accepting state
pub accepts_by_an_end : (tree : Tree) (file : List ℕ) → Accepts tree file ↔ ((p : ℕ) × EndsIn tree file p × Accepting tree p)
accepts_by_an_end tree file = grind arith

-- each state of a run is the start or a slot
pub ends_in_a_slot : (tree : Tree) (file : List ℕ) (q : ℕ) → EndsIn tree file q → q ≤ slots_of tree
ends_in_a_slot tree file q ends = grind (arith, run_states tree file (ends.front ++ q ∷ []) ends.run, last_is_slot tree 0 file)

-- and only slots follow a state
pub follows_to_a_slot : (tree : Tree) (p q : ℕ) → Follows tree p q → q ≤ slots_of tree
follows_to_a_slot tree p q follows = let slot = next_is_slot tree p q follows in omega arith

pub follows_above_the_start : (tree : Tree) (p q : ℕ) → Follows tree p q → 0 < q
follows_above_the_start tree p q follows = (next_is_slot tree p q follows).0

-- a file has a run that ends in the state, or it has none
pub runs_end_or_not : (s : SequenceView) (file : List ℕ) (q : ℕ) → IsSequence s → EndsIn (whole_tree s) file q ⊎ ¬ EndsIn (whole_tree s) file q
runs_end_or_not s file q is = ends_or_not (whole_tree s) file (whole_is_trim s is) q

-- some state of a set leads on, or none does
pub sets_lead_or_not : (s : SequenceView) (set : List ℕ) (b q : ℕ) → IsSequence s → IsStepOf (whole_tree s) set b q ⊎ ¬ IsStepOf (whole_tree s) set b q
sets_lead_or_not s set b q is = step_or_not (whole_tree s) set b q (whole_is_trim s is)

-- a run of a file ends in an accepting state, or it does not end in this one or this one is none
accepting_end_or_not : (s : SequenceView) (file : List ℕ) → IsSequence s → (q : ℕ) → (EndsIn (whole_tree s) file q × Accepting (whole_tree s) q)
    ⊎ ¬ (EndsIn (whole_tree s) file q × Accepting (whole_tree s) q)
accepting_end_or_not s file is q = grind (arith, runs_end_or_not, accepting_or_not, whole_is_trim)

-- a sequence stands in a file, or it does not
pub stands_or_not : (s : SequenceView) (file : List ℕ) → IsSequence s → IsBytes file → Stands s file ⊎ ¬ Stands s file
stands_or_not s file is bytes =
    let tree = whole_tree s in
    let law = runs_accept_what_stands s file is bytes in
    let ends = accepts_by_an_end tree file in
    elim (some_or_none (λ q. EndsIn tree file q × Accepting tree q) (accepting_end_or_not s file is) (slots_of tree + 1)) [
      | inl found ↦ inl (law.0 (ends.1 (found.number, found.holds.0, found.holds.1)))
      | inr none ↦ inr (λ stands.
          let end = ends.0 (law.1 stands) in
          let slot = ends_in_a_slot tree file end.0 end.1 in
          none (record { number = end.0; within = omega arith; holds = (end.1, end.2) }))
    ]
