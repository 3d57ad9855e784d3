use Rattle.sig_bits.proofs.GroupLemmas.{SplitSoFar}
use Rattle.sig_bits.proofs.groups.split.Given as goal

abbrev pub invariant-loop-b : goal.invariant-loop-b
invariant-loop-b l = SplitSoFar l.leads l.split l.others l.first l.last l.b
