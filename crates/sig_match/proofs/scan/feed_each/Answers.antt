use Rattle.std.proofs.Common.{arith}
use Rattle.sig_match.proofs.ScanLemmas.{FedBelow-all}
use Rattle.sig_match.proofs.scan.feed_each.Goals as goal

pub returns : goal.returns
returns c file known = FedBelow-all file c.args.piece.now c.loop-signature.signature-index known _ _ (omega arith) c.loop-signature.invariant
