use Rattle.sig_auto.proofs.Common.{rules, arith}
use Rattle.sig_auto.proofs.CellStepLemmas.{within_endless}
use Rattle.sig_auto.proofs.step.add_within.Goals as goal

pub returns-then-get_bit : goal.returns-then-get_bit
returns-then-get_bit c =
    within_endless c.args.cell c.args.from.now c.args.to.now c.shift_into.new.dst c.set_bit.new.bits _ _ c.args.takes c.requires.some (omega arith)
    (omega arith)
    (search rules) c.if-cell.true (c.get_bit.ensures.0 c.if-get_bit.true) c.shift_into.ensures c.set_bit.ensures
