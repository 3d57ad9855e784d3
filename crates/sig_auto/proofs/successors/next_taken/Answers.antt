use Rattle.sig_auto.proofs.Common.{arith, sym, ◌∙◌, false≢true}
use Rattle.sig_auto.proofs.BehindLemmas.{first_fits, less_left}
use Rattle.sig_auto.proofs.CellTakenLemmas.{passes_here, takes_here}
use Rattle.sig_auto.proofs.successors.next_taken.Goals as goal

pub overflow_add-result : goal.overflow_add-result
overflow_add-result c = first_fits c.args.cells.now c.loop-at.at _ c.requires.ready.lined (omega arith) c.requires.ready.few

pub returns-then-contains : goal.returns-then-contains
returns-then-contains c = c.loop-at.invariant ∙ takes_here c.args.cells.now c.args.joints.now c.loop-at.at c.args.byte _ c.index.result.now c.requires.joints
    (omega arith) c.index.ensures (c.contains.ensures.0 c.if-contains.true)

pub loop-at-smaller : goal.loop-at-smaller
loop-at-smaller c = less_left c.args.cells.now c.args.joints.now c.loop-at.at _ c.requires.joints (omega arith) c.index.ensures

pub loop-at-preserved : goal.loop-at-preserved
loop-at-preserved c = c.loop-at.invariant ∙ passes_here c.args.cells.now c.args.joints.now c.loop-at.at c.args.byte _ c.index.result.now c.requires.joints
    (omega arith) c.index.ensures (λ is. false≢true (sym c.if-contains.false ∙ c.contains.ensures.1 is))
