use Rattle.std.proofs.Common.{length}
use Rattle.sig_match.proofs.scan.signature_scan.+all_stand.Given as goal

abbrev pub decreases-all_stand : goal.decreases-all_stand
decreases-all_stand l = length l.scans.now
