use Rattle.std.proofs.Common.{take}
use Rattle.sig_expr.specs.Words.{Lang}
use Rattle.sig_match.specs.Runs.{Bounds}
use Rattle.sig_match.proofs.whole.longest.longest_of.Given as goal

-- no word of those so far is longer
abbrev pub invariant-loop-item : goal.invariant-loop-item
invariant-loop-item l = Bounds (Lang (take l.item-index l.items)) l.sum
