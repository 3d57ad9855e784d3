use Rattle.sig_scan.proofs.Common.{MarksBelow}
use Rattle.sig_scan.proofs.marks.mark_rest.Given as goal

-- the offsets so far
abbrev pub invariant-loop-offset : goal.invariant-loop-offset
invariant-loop-offset l = MarksBelow l.class l.bytes l.offset l.set
