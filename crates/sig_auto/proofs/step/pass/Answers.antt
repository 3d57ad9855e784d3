use Rattle.sig_auto.proofs.CellPassLemmas.{pass_told}
use Rattle.sig_auto.proofs.step.pass.Goals as goal

pub returns : goal.returns
returns c =
    pass_told c.args.cells.now c.args.joints.now c.args.from.now c.args.to.now c.enter_if.new.to c.enter_if-2.new.to c.keep_if.new.set c.add_within.new.to
    c.args.byte c.args.k
    _ c.index-joint.result.now c.contains-takes.result c.get_bit.result c.is_left.result c.requires.ready.lined c.requires.joints c.requires.within
    c.index-joint.ensures c.contains-takes.ensures c.get_bit.ensures c.enter_if.ensures c.is_left.ensures c.enter_if-2.ensures c.keep_if.ensures
    c.add_within.ensures c.requires.passed
