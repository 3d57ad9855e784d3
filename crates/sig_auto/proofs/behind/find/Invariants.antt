use Rattle.sig_auto.proofs.Common.{◌-◌}
use Rattle.sig_auto.proofs.BehindLemmas.{Between}
use Rattle.sig_auto.proofs.behind.find.Given as goal

abbrev pub invariant-loop-high : goal.invariant-loop-high
invariant-loop-high l = Between l.cells l.p l.low l.high

abbrev pub decreases-loop-high : goal.decreases-loop-high
decreases-loop-high l = l.high - l.low
