use Rattle.sig_match.proofs.ScanLemmas.{FedBelow}
use Rattle.sig_match.proofs.scan.feed_each.Given as goal

-- the signatures so far are fed
abbrev pub invariant-loop-signature : goal.invariant-loop-signature
invariant-loop-signature l = FedBelow l.piece l.signature-index l.initial.signatures l.signatures
