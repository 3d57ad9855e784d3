use Rattle.sig_scan.proofs.Common.{leb, arith, get_or, le-leb, leb-true}
use Rattle.sig_scan.proofs.MarkLemmas.{mask_bit}
use Rattle.sig_scan.proofs.marks.at_most.Goals as goal

pub returns : goal.returns
returns c k low = grind (
  arith,
  mask_bit leb c.args.lanes c.args.byte k c.fits-lanes.0 low,
  leb-true (get_or c.args.lanes k 0),
  le-leb (get_or c.args.lanes k 0),
)
