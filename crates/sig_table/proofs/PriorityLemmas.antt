-- Priorities once a pair is added.
use Rattle.std.proofs.Common.{ℕ, ◌<◌, List, [], ◌∷◌, ◌++◌, Contains}
use Rattle.std.proofs.lemmas.List.Elements.{All-nil, All-push}
use Rattle.sig_table.proofs.RankingLemmas.{IsUpTo, grows-push, no_cycle-more, no_cycle-none}
use Rattle.sig_table.proofs.TableLemmas.{AllDifferent-push}
use Rattle.sig_table.specs.Tables.{ArePriorities}

pub no_priorities : (formats : ℕ) → ArePriorities formats []
no_priorities formats = record { known = All-nil _; different = tt; no_cycle = no_cycle-none }

pub one_priority_more : (formats : ℕ) (pairs : List (ℕ × ℕ)) (pair : ℕ × ℕ) → ArePriorities formats pairs → (pair.0 < formats) × (pair.1 < formats)
    → (Contains pairs pair → ⊥) → (IsUpTo pairs pair.1 pair.0 → ⊥) → ArePriorities formats (pairs ++ pair ∷ [])
one_priority_more formats pairs pair are within new back = record {
  known = All-push (λ p. (p.0 < formats) × (p.1 < formats)) pairs pair are.known within;
  different = AllDifferent-push pairs pair are.different new;
  no_cycle = no_cycle-more pairs pair.0 pair.1 (pairs ++ pair ∷ []) (grows-push pairs pair) are.no_cycle back;
}
