use Rattle.sig_auto.proofs.Common.{arith, ◌∙◌}
use Rattle.sig_auto.proofs.BehindLemmas.{first_fits, less_left, passed}
use Rattle.sig_auto.proofs.behind.is_entered.Goals as goal

pub overflow_add-cells : goal.overflow_add-cells
overflow_add-cells c = first_fits c.args.cells.now c.loop-at.at _ c.requires.ready.lined (omega arith) c.requires.ready.few

pub loop-at-smaller : goal.loop-at-smaller
loop-at-smaller c = less_left c.args.cells.now c.args.joints.now c.loop-at.at _ c.requires.joints (omega arith) c.index.ensures

pub loop-at-preserved : goal.loop-at-preserved
loop-at-preserved c = c.loop-at.invariant ∙ passed c.args.cells.now c.args.joints.now c.loop-at.at c.args.q _ _ c.requires.joints (omega arith) c.index.ensures
    c.if-cells-at.false
