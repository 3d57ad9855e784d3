use Rattle.sig_scan.proofs.Common.{IsWindow}
use Rattle.sig_scan.proofs.filter.window_of.Given as goal

-- the best so far is inside
abbrev pub invariant-loop-at : goal.invariant-loop-at
invariant-loop-at l = IsWindow l.literal l.best
