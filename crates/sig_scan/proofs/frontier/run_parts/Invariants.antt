use Rattle.sig_scan.proofs.Common.{ℕ, ◌≤◌, drop, length, HasBit, AlternativeWord}
use Rattle.sig_scan.proofs.ReachLemmas.{Carries}
use Rattle.sig_scan.proofs.frontier.run_parts.Given as goal

-- the rest of the parts, from these ends on
abbrev pub invariant-loop-atom : goal.invariant-loop-atom
invariant-loop-atom l = record {
  within : (a : ℕ) → HasBit l.ends a → a ≤ length l.bytes;
  carries : Carries (AlternativeWord l.atoms) (AlternativeWord (drop l.atom-index l.atoms)) l.bytes (HasBit l.fn.ends) l.ends;
}
