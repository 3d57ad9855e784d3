use Rattle.std.proofs.Common.{ap, arith, refl, ◌∙◌}
use Rattle.sig_lint.specs.EqualRows.{RowsView}
use Rattle.sig_lint.proofs.EqualRowsLemmas.{rows-all, rows-more, rows-none}
use Rattle.sig_lint.proofs.row_owners.rows_of_two_formats.Goals as goal

pub loop-place-init : goal.loop-place-init
loop-place-init c = c.new-rows.ensures ∙ rows-none c.args.table.now.signatures

pub loop-place-preserved : goal.loop-place-preserved
loop-place-preserved c =
    rows-more c.args.table.now.signatures c.loop-place.place c.loop-place.rows c.in_ok-rows.rows _ c.sequences_of.result.now c.loop-place.invariant refl
    c.format_of.ensures.format c.sequences_of.ensures.sequences c.in_ok-rows.ensures

pub returns : goal.returns
returns c =
    ap (λ (r : RowsView). r.found) c.rows.view_is ∙ rows-all c.args.table.now c.loop-place.place c.loop-place.rows
    (omega (arith, c.signature_count-place-end.ensures.count)) c.loop-place.invariant
