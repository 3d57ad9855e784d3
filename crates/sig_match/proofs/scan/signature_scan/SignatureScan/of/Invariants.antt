use Rattle.std.proofs.Common.{[], take}
use Rattle.sig_match.specs.Scans.{AreSequenceScansOf}
use Rattle.sig_match.proofs.scan.signature_scan.SignatureScan.of.Given as goal

-- each sequence so far has its scan
abbrev pub invariant-loop-sequence : goal.invariant-loop-sequence
invariant-loop-sequence l = AreSequenceScansOf [] (take l.sequence-index l.sequences) l.scans.items
