use Rattle.sig_auto.proofs.Common.{IsSomePassed}
use Rattle.sig_auto.proofs.step.step.Given as goal

abbrev pub invariant-loop-k : goal.invariant-loop-k
invariant-loop-k l = IsSomePassed l.cells l.joints l.from l.byte l.to l.k
