use Rattle.sig_scan.proofs.Common.{ℕ, ◌≤◌, drop, length, HasBit, Lang}
use Rattle.sig_scan.proofs.ReachLemmas.{Carries}
use Rattle.sig_scan.proofs.frontier.run.Given as goal

-- the rest of the items, from these ends on
abbrev pub invariant-loop-item : goal.invariant-loop-item
invariant-loop-item l = record {
  within : (a : ℕ) → HasBit l.ends a → a ≤ length l.bytes;
  carries : Carries (Lang l.items) (Lang (drop l.item-index l.items)) l.bytes (HasBit l.fn.ends) l.ends;
}
