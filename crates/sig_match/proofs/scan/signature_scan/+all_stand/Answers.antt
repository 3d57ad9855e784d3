use Rattle.sig_match.proofs.ScanLemmas.{mark_cons, mark_not}
use Rattle.sig_match.proofs.scan.signature_scan.+all_stand.Goals as goal

pub returns-then-stands : goal.returns-then-stands
returns-then-stands t c = mark_cons _ _ _ _ _ c.in-Some.ensures.cases.0 c.stands.ensures c.if-stands.true c.all_stand.ensures

pub returns-else-stands : goal.returns-else-stands
returns-else-stands t c = mark_not _ _ _ _ c.in-Some.ensures.cases.0 c.stands.ensures c.if-stands.false
