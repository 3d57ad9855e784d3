-- Scans: the states of each sequence of a table after the bytes so far.
use Rattle.std.specs.Prelude.{◌≡◌, ℕ, List}
use Rattle.std.specs.List.{AllZip}
use Rattle.sig_auto.specs.Runs.{IsSetOf}
use Rattle.sig_auto.specs.Trees.{whole_tree}
use Rattle.sig_bits.specs.Bytes.{IsBytes}
use Rattle.sig_table.specs.Views.{SequenceView, SignatureView, TableView}

-- a sequence, and its current set of states
pub record SequenceScanView : Type 0 where
  pub sequence : SequenceView
  pub set : List ℕ

-- a table, and for each of its signatures the sequences with their current sets
pub record ScanView : Type 0 where
  pub table : TableView
  pub signatures : List (List SequenceScanView)

-- the current set of the sequence has the states in which runs of the file end, and no others
pub record IsSequenceScanOf (file : List ℕ) (sequence : SequenceView) (scan : SequenceScanView) : Type 0 where
  pub sequence_is : scan.sequence ≡ sequence
  pub set_is : IsSetOf (whole_tree sequence) scan.set file

-- so it is for each of the sequences, in order
abbrev pub AreSequenceScansOf : List ℕ → List SequenceView → List SequenceScanView → Type 0
AreSequenceScansOf file sequences scans = AllZip (IsSequenceScanOf file) sequences scans

-- so it is for the sequences of each signature, in order
abbrev pub AreSignatureScansOf : List ℕ → List SignatureView → List (List SequenceScanView) → Type 0
AreSignatureScansOf file signatures scans = AllZip (λ (s : SignatureView). AreSequenceScansOf file s.sequences) signatures scans

-- the scan is of the file: so it is for each sequence of its table
pub record IsScanOf (scan : ScanView) (file : List ℕ) : Type 0 where
  pub bytes : IsBytes file
  pub each : AreSignatureScansOf file scan.table.signatures scan.signatures
