use Rattle.std.proofs.Common.{List, ap, map, ◌∙◌}
use Rattle.sig_table.specs.declared.ids.SigId.{SigId}
use Rattle.sig_lint.proofs.ReportLemmas.{found_within}
use Rattle.sig_lint.proofs.reporter.put_gaps.Goals as goal

pub put_gaps_line-requires : goal.put_gaps_line-requires
put_gaps_line-requires c =
    found_within c.args.table.now.signatures c.deref-signature-items.result.now c.loop-signature.signature-index _
    (ap (λ (l : List SigId). map (λ id. id.0) l) c.deref-signature-items.ensures.value ∙ c.in_ok-found.ensures) c.loop-signature-test.true
