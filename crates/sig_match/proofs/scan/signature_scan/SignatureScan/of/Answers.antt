use Rattle.std.proofs.Common.{[], arith, subst}
use Rattle.std.proofs.lemmas.List.{take_all}
use Rattle.sig_match.specs.Scans.{AreSequenceScansOf, IsSequenceScanOf}
use Rattle.sig_match.proofs.ScanLemmas.{zip_more}
use Rattle.sig_match.proofs.scan.signature_scan.SignatureScan.of.Goals as goal

pub loop-sequence-preserved : goal.loop-sequence-preserved
loop-sequence-preserved c =
    rw c.in_ok-push.ensures.items (zip_more (IsSequenceScanOf []) c.args.sequences.now c.loop-sequence.scans.items c.loop-sequence.sequence-index
    c.sequence-item.result _ (omega arith) c.sequence-item.is c.loop-sequence.invariant c.in_ok-of.ensures)

pub returns : goal.returns
returns c = subst (λ l. AreSequenceScansOf [] l c.loop-sequence.scans.items) (take_all c.loop-sequence.sequence-index c.args.sequences.now (omega arith))
    c.loop-sequence.invariant
