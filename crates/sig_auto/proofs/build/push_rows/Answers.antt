use Rattle.sig_auto.proofs.Common.{arith}
use Rattle.sig_auto.proofs.BuildLemmas.{rows_on}
use Rattle.sig_auto.proofs.build.push_rows.Goals as goal

pub loop-j-preserved : goal.loop-j-preserved
loop-j-preserved c = rows_on (λ v. v.items) _ c.args.rows.now c.loop-j.j c.args.n c.args.front c.args.behind c.args.cells.now.items c.loop-j.cells.items
    c.push_row.new.cells.items c.loop-j.slots c.in_ok-slots.slots c.index-rows-j.result c.as_slice.result.now c.loop-j.invariant (omega arith) c.index-rows-j.is
    c.as_slice.ensures.value c.in_ok-slots.ensures
