-- A file has a run that ends in a state, or it has none: which of the two is told by a search over the states before.
use Rattle.sig_auto.proofs.Common.{◌⊎◌, ℕ, zero, suc, ◌+◌, ◌/◌, ◌%◌, ◌<◌, ◌≤◌, List, [], ◌∷◌, ◌++◌, slice_index, append_assoc, subst, sym, inl, inr, arith}
use Rattle.sig_auto.proofs.Common.{bit_at, cases_eq, false≢true, ne_eqb, append-nil, EndsIn, FollowsOn, IsStepOf, Accepting, Follows, Tree, Takes, class_of}
use Rattle.sig_auto.proofs.Common.{slots_of, IsTrim, HasBit}
use Rattle.sig_auto.proofs.EndLemmas.{begin_only, ends_before, ends_further}
use Rattle.sig_auto.proofs.LocalLemmas.{follows-slots}
use Rattle.sig_auto.proofs.RunLemmas.{follows_shown}
use Rattle.sig_auto.proofs.CellTakenLemmas.{in_class_exact}
use Rattle.sig_auto.proofs.TrimLemmas.{accepting_exact, follows_exact}

-- ---- a search over numbers

-- some number below the bound has the property
pub record SomeBelow (P : ℕ → Type 0) (bound : ℕ) : Type 0 where
  pub number : ℕ
  pub within : number < bound
  pub holds : P number

none_more : (P : ℕ → Type 0) (n : ℕ) → ¬ P n → ¬ SomeBelow P n → ¬ SomeBelow P (suc n)
none_more P n fails none found = grind arith

pub some_or_none : (P : ℕ → Type 0) → ((k : ℕ) → P k ⊎ ¬ P k) → (n : ℕ) → SomeBelow P n ⊎ ¬ SomeBelow P n
some_or_none P each zero = inr (λ found. let within = found.within in omega arith)
some_or_none P each (suc n) = grind (arith, none_more P n, some_or_none P each n)

-- ---- a state with a property leads to another on a byte, or none does

-- the state has the property, and the other follows it and takes the byte
abbrev Leads : Tree → (ℕ → Type 0) → ℕ → ℕ → ℕ → Type 0
Leads tree P b q p = P p × Follows tree p q × Takes tree q b

follows_or_not : (tree : Tree) (p b q : ℕ) → IsTrim tree → FollowsOn tree p b q ⊎ ¬ FollowsOn tree p b q
follows_or_not tree p b q trim = grind (arith, in_class_exact (class_of tree q) b, follows_exact tree trim p q, false≢true)

-- some track ends with the state, or none does
pub accepting_or_not : (tree : Tree) → IsTrim tree → (q : ℕ) → Accepting tree q ⊎ ¬ Accepting tree q
accepting_or_not tree trim q = grind (arith, accepting_exact tree trim q, false≢true)

leads_or_not : (tree : Tree) (P : ℕ → Type 0) (b q p : ℕ) → IsTrim tree → P p ⊎ ¬ P p → Leads tree P b q p ⊎ ¬ Leads tree P b q p
leads_or_not tree P b q p trim own = grind (arith, follows_or_not tree p b q trim)

-- only the start and slots are followed
pub followed_is_state : (tree : Tree) (p q : ℕ) → Follows tree p q → p ≤ slots_of tree
followed_is_state tree p q f = grind (arith, follows-slots tree 0 p q, ne_eqb, follows_shown tree p q f)

some_leads_or_not : (tree : Tree) (P : ℕ → Type 0) (b q : ℕ) → IsTrim tree → ((p : ℕ) → P p ⊎ ¬ P p) → ((p : ℕ) × P p × Follows tree p q × Takes tree q b)
    ⊎ ¬ ((p : ℕ) × P p × Follows tree p q × Takes tree q b)
some_leads_or_not tree P b q trim each = elim (some_or_none (Leads tree P b q) (λ p. leads_or_not tree P b q p trim (each p)) (slots_of tree + 1)) [
  | inl found ↦ inl (found.number, found.holds.0, found.holds.1, found.holds.2)
  | inr none ↦ inr (λ h. none (let state = followed_is_state tree h.0 q h.2 in record { number = h.0; within = omega arith; holds = (h.1, h.2, h.3) }))
]

-- ---- so a set leads to a state or does not

bit_or_not : (set : List ℕ) (p : ℕ) → HasBit set p ⊎ ¬ HasBit set p
unfolding HasBit
bit_or_not set p = cases_eq (bit_at (slice_index set (p / 8)) (p % 8)) 1

pub step_or_not : (tree : Tree) (set : List ℕ) (b q : ℕ) → IsTrim tree → IsStepOf tree set b q ⊎ ¬ IsStepOf tree set b q
step_or_not tree set b q trim = some_leads_or_not tree (HasBit set) b q trim (bit_or_not set)

-- ---- and a run of a file ends in it or none does

abbrev EndOrNot : Tree → List ℕ → Type 0
EndOrNot tree file = (q : ℕ) → EndsIn tree file q ⊎ ¬ EndsIn tree file q

begin_or_not : (tree : Tree) → EndOrNot tree []
begin_or_not tree q = elim (cases_eq q 0) [
  | inl start ↦ inl (record { front = []; run = (start, tt) })
  | inr other ↦ inr (λ ends. other (begin_only tree q ends.front ends.run))
]

go_on_or_not : (tree : Tree) (file : List ℕ) (b : ℕ) → IsTrim tree → EndOrNot tree file → EndOrNot tree (file ++ b ∷ [])
go_on_or_not tree file b trim each q = grind (arith, some_leads_or_not tree (EndsIn tree file) b q trim each, ends_further tree file, ends_before tree file b q)

end_behind_or_not : (tree : Tree) (front bytes : List ℕ) → IsTrim tree → EndOrNot tree front → EndOrNot tree (front ++ bytes)
end_behind_or_not tree front [] trim each = subst (EndOrNot tree) (sym (append-nil front)) each
end_behind_or_not tree front (b ∷ bytes) trim each =
    subst (EndOrNot tree) (append_assoc front (b ∷ []) bytes) (end_behind_or_not tree (front ++ b ∷ []) bytes trim (go_on_or_not tree front b trim each))

pub ends_or_not : (tree : Tree) (file : List ℕ) → IsTrim tree → EndOrNot tree file
ends_or_not tree file trim = end_behind_or_not tree [] file trim (begin_or_not tree)
