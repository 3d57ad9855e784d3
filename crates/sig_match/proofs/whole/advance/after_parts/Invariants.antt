use Rattle.std.proofs.Common.{ℕ, ◌≤◌, drop, length}
use Rattle.sig_expr.specs.Words.{AlternativeWord}
use Rattle.sig_match.specs.Frontiers.{IsIn}
use Rattle.sig_match.proofs.ReachLemmas.{Carries}
use Rattle.sig_match.proofs.whole.advance.after_parts.Given as goal

-- the rest of the parts, from these ends on
abbrev pub invariant-loop-part : goal.invariant-loop-part
invariant-loop-part l = record {
  within : (a : ℕ) → IsIn l.ends.items a → a ≤ length l.file;
  carries : Carries (AlternativeWord l.parts) (AlternativeWord (drop l.part-index l.parts)) l.file (IsIn l.fn.frontier) l.ends.items;
}
