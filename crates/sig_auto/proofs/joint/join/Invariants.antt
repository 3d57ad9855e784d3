use Rattle.sig_auto.proofs.JoinLemmas.{Joining}
use Rattle.sig_auto.proofs.joint.join.Given as goal

abbrev pub invariant-loop-k : goal.invariant-loop-k
invariant-loop-k l = Joining l.cells l.k l.first.items l.lands.items l.each.items

abbrev pub decreases-loop-k : goal.decreases-loop-k
decreases-loop-k l = l.k
