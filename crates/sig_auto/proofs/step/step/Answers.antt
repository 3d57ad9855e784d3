use Rattle.sig_auto.proofs.Common.{arith, length, subst, HasBit, zeros_have_no_bit}
use Rattle.sig_auto.proofs.CellPassLemmas.{end_told, start_told}
use Rattle.sig_auto.proofs.step.step.Goals as goal

pub loop-k-init : goal.loop-k-init
loop-k-init c =
    start_told c.args.cells.now c.args.joints.now c.args.from.now c.clear.new.bits c.enter_if.new.to c.args.byte c.get_bit.result c.requires.ready.lined
    c.get_bit.ensures
    (λ s had. zeros_have_no_bit (length c.args.to.now) s (subst (λ l. HasBit l s) c.clear.ensures had)) c.enter_if.ensures

pub returns : goal.returns
returns c = end_told c.args.cells.now c.args.joints.now c.args.from.now c.loop-k.to c.args.byte c.loop-k.k c.requires.ready.lined (omega arith)
    c.loop-k.invariant
