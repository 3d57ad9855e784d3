use Rattle.std.proofs.Common.{List, map, ap, sym, ◌∙◌}
use Rattle.sig_table.specs.declared.ids.SigId.{SigId}
use Rattle.sig_lint.proofs.WarningLemmas.{places-more, places-none}
use Rattle.sig_lint.proofs.warnings.signatures_of_gaps.Goals as goal

pub loop-place-init : goal.loop-place-init
loop-place-init c = ap (λ (l : List SigId). map (λ id. id.0) l) c.new-found.ensures.items ∙ sym (places-none c.args.table.now.signatures)

pub loop-place-preserved : goal.loop-place-preserved
loop-place-preserved c =
    places-more c.args.table.now.signatures c.loop-place.place _ _ c.sequences_of.result.now c.are_of_gaps.result c.loop-place.invariant
    c.sequences_of.ensures.sequences c.are_of_gaps.ensures c.in_ok-found.ensures
