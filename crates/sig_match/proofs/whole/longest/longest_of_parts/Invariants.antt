use Rattle.std.proofs.Common.{take}
use Rattle.sig_expr.specs.Words.{AlternativeWord}
use Rattle.sig_match.specs.Runs.{Bounds}
use Rattle.sig_match.proofs.whole.longest.longest_of_parts.Given as goal

-- no word of those so far is longer
abbrev pub invariant-loop-part : goal.invariant-loop-part
invariant-loop-part l = Bounds (AlternativeWord (take l.part-index l.parts)) l.sum
