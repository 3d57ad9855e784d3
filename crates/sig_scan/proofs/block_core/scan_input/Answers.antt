use Rattle.sig_scan.proofs.Common.{sym, subst, AreHeadsOf, AreExcluded}
use Rattle.sig_scan.proofs.block_core.scan_input.Goals as goal

pub scan_on-requires-clause-excluded : goal.scan_on-requires-clause-excluded
scan_on-requires-clause-excluded g c =
    subst (AreExcluded c.args.table.now c.in_ok-may_hit-in-Some.may_hit.items) c.as_bytes.ensures.bytes c.in_ok-may_hit-in-Some.ensures.excluded

pub may_hit_of-requires-in-None : goal.may_hit_of-requires-in-None
may_hit_of-requires-in-None g c = subst (AreHeadsOf c.args.table.now) (sym c.deref-in-None.ensures.value) c.in_ok-heads-in-None.ensures

pub scan_on-requires-in-None-clause-excluded : goal.scan_on-requires-in-None-clause-excluded
scan_on-requires-in-None-clause-excluded g c =
    subst (AreExcluded c.args.table.now c.in_ok-may_hit-in-None.may_hit.items) c.as_bytes-in-None.ensures.bytes c.in_ok-may_hit-in-None.ensures.excluded
