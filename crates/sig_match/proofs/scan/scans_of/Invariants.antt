use Rattle.std.proofs.Common.{[], take}
use Rattle.sig_match.specs.Scans.{AreSignatureScansOf}
use Rattle.sig_match.proofs.scan.scans_of.Given as goal

-- each signature so far has its scan
abbrev pub invariant-loop-index : goal.invariant-loop-index
invariant-loop-index l = AreSignatureScansOf [] (take l.index l.table.signatures) l.scans.items
