use Rattle.std.proofs.Common.{◌≡◌, ◌++◌, ℕ, List, length, take}
use Rattle.sig_auto.specs.Trees.{whole_tree}
use Rattle.sig_auto.specs.TreeSlots.{set_len}
use Rattle.sig_match.specs.Scans.{IsSequenceScanOf}
use Rattle.sig_table.specs.Views.{SequenceView}
use Rattle.sig_match.proofs.scan.sequence_scan.SequenceScan.feed.Given as goal

-- the set is that behind the bytes so far
abbrev pub invariant-loop-byte : goal.invariant-loop-byte
invariant-loop-byte l = record {
  set_long : length l.self-inside.set.items ≡ set_len (whole_tree l.self-inside.auto);
  next_long : length l.self-inside.next.items ≡ set_len (whole_tree l.self-inside.auto);
  goes_on : (file : List ℕ) (s : SequenceView) → IsSequenceScanOf file s l.fn.self
      → IsSequenceScanOf (file ++ take l.byte-index l.piece) s (record { sequence = l.self-inside.auto; set = l.self-inside.set.items });
}
