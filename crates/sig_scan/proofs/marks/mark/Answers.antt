use Rattle.sig_scan.proofs.Common.{arith, zeros_have_no_bit}
use Rattle.sig_scan.proofs.marks.mark.Goals as goal

pub loop-from-init : goal.loop-from-init
loop-from-init c = grind (arith, zeros_have_no_bit, c.clear.ensures)
