use Rattle.sig_match.proofs.ScanLemmas.{scan_stands}
use Rattle.sig_match.proofs.scan.sequence_scan.SequenceScan.stands.Goals as goal

pub returns : goal.returns
returns c file s = scan_stands file s _ _ _ _ c.self.view_is c.deref.ensures.value c.any_accepting.ensures
