use Rattle.std.proofs.Common.{length}
use Rattle.sig_match.proofs.scan.signature_scan.+feed_each.Given as goal

abbrev pub decreases-feed_each : goal.decreases-feed_each
decreases-feed_each l = length l.scans.now
