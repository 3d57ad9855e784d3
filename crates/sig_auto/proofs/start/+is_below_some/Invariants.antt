use Rattle.sig_auto.proofs.Common.{length}
use Rattle.sig_auto.proofs.start.+is_below_some.Given as goal

abbrev pub decreases-is_below_some : goal.decreases-is_below_some
decreases-is_below_some l = length l.bytes.now
