use Rattle.sig_scan.proofs.Common.{arith, zeros_have_no_bit}
use Rattle.sig_scan.proofs.offsets.fill.Goals as goal

pub returns : goal.returns
returns c = grind (arith, zeros_have_no_bit, c.clear.ensures, c.add_range.ensures)
