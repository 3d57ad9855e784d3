use Rattle.std.proofs.Common.{subst}
use Rattle.sig_cert.specs.Growing.{MayGrow}
use Rattle.sig_cert.proofs.DecidesLemmas.{bytes_from_slice, closed_if_accepted, decided_if_closed}
use Rattle.sig_cert.proofs.checker.check.Goals as goal

pub returns-clause-closed : goal.returns-clause-closed
returns-clause-closed c =
    closed_if_accepted c.args.table.now c.args.certificate.now c.over.result c.judge_certificate.new.view c.judge_certificate.result
    (bytes_from_slice c.args.certificate.now c.type_inv.certificate) c.over.ensures c.judge_certificate.ensures.judged c.judge_certificate.ensures.at_end

pub returns-clause-decided : goal.returns-clause-decided
returns-clause-decided c = decided_if_closed c.args.table.now c.args.certificate.now c.judge_certificate.result c.judge_certificate.ensures.table
    (returns-clause-closed c)

pub returns-clause-memory : goal.returns-clause-memory
returns-clause-memory c short = subst (MayGrow c.args.table.now) c.over.ensures (c.judge_certificate.ensures.memory short)
