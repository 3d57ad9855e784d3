use Rattle.sig_auto.proofs.Common.{length}
use Rattle.sig_auto.proofs.start.+is_above_some.Given as goal

abbrev pub decreases-is_above_some : goal.decreases-is_above_some
decreases-is_above_some l = length l.bytes.now
