use Rattle.sig_scan.proofs.Common.{subst, sym, AreFirst}
use Rattle.sig_scan.proofs.MarkedLemmas.{Knows-fresh}
use Rattle.sig_scan.proofs.scan.Scan.new.Goals as goal

pub returns-clause-fresh : goal.returns-clause-fresh
returns-clause-fresh c table is size excluded =
    Knows-fresh table c.args.program.now c.args.keep c.args.buffer.bytes c.in_ok-states.states.items c.args.may_hit.items is size
    (subst (AreFirst c.args.program.now.courses) (sym c.in_ok-states.ensures.items) c.first_states.ensures.first) c.requires.bytes excluded
