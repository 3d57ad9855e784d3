use Rattle.std.proofs.Common.{◌==◌, ap, sym, ◌∙◌}
use Rattle.sig_table.specs.Loading.{records_of}
use Rattle.sig_lint.proofs.ReportLemmas.{faults_told}
use Rattle.sig_lint.proofs.reporter.report_on.Goals as goal

pub returns : goal.returns
returns c =
    faults_told (records_of c.args.signatures.now) (records_of c.args.priorities.now) c.deref.result.now c.in_ok-fault_lines.field-0.items
    (c.deref.ensures.value ∙ c.in_ok-faults.ensures.faults)
    (ap (λ n. n == 0) c.deref.ensures.len ∙ sym c.is_empty.ensures ∙ c.if-is_empty.false)
    (λ fault later is. c.in_ok-faults.ensures.first fault later (sym c.deref.ensures.value ∙ is)) c.in_ok-fault_lines.ensures
