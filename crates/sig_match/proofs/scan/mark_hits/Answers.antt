use Rattle.std.proofs.Common.{arith}
use Rattle.sig_match.proofs.ScanLemmas.{MarksHits-from_marked}
use Rattle.sig_match.proofs.scan.mark_hits.Goals as goal

pub returns : goal.returns
returns c table file is bytes are = MarksHits-from_marked table file c.loop-index.index c.args.signatures.now c.loop-index.marks (omega arith) is bytes are
    c.loop-index.invariant
