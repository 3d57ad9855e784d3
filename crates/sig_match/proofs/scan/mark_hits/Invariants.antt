use Rattle.sig_match.proofs.ScanLemmas.{MarkedBelow}
use Rattle.sig_match.proofs.scan.mark_hits.Given as goal

-- the signatures so far are marked
abbrev pub invariant-loop-index : goal.invariant-loop-index
invariant-loop-index l = MarkedBelow l.index l.signatures l.marks
