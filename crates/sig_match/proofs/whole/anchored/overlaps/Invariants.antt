use Rattle.std.proofs.Common.{take}
use Rattle.sig_match.specs.Frontiers.{IsWithin, Meets}
use Rattle.sig_match.proofs.whole.anchored.overlaps.Given as goal

-- no interval so far overlaps the other one
abbrev pub invariant-loop-interval : goal.invariant-loop-interval
invariant-loop-interval l = Meets (IsWithin l.other) (take l.interval-index l.frontier) → ⊥
