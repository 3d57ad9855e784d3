use Rattle.sig_scan.proofs.Common.{arith, get_or, lt-ltb, ltb, ltb-true}
use Rattle.sig_scan.proofs.MarkLemmas.{mask_bit}
use Rattle.sig_scan.proofs.marks.below.Goals as goal

pub returns : goal.returns
returns c k low = grind (
  arith,
  mask_bit ltb c.args.lanes c.args.byte k c.fits-lanes.0 low,
  ltb-true (get_or c.args.lanes k 0),
  lt-ltb (get_or c.args.lanes k 0),
)
