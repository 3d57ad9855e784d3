use Rattle.sig_scan.proofs.Common.{AreHeadsOf}
use Rattle.sig_scan.proofs.head.heads_of.Given as goal

-- those so far are heads
abbrev pub invariant-loop-index : goal.invariant-loop-index
invariant-loop-index l = AreHeadsOf l.table l.heads.items

abbrev pub invariant-loop-sequence : goal.invariant-loop-sequence
invariant-loop-sequence l = AreHeadsOf l.table l.heads.items
