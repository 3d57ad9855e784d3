use Rattle.sig_scan.proofs.Common.{◌≡◌, ◌*◌, ◌/◌, ◌-◌, ◌≤◌, length, MarksBelow}
use Rattle.sig_scan.proofs.marks.mark.Given as goal

-- the offsets so far
abbrev pub invariant-loop-from : goal.invariant-loop-from
invariant-loop-from l = record {
  whole : 8 * (l.from / 8) ≡ l.from;
  within : l.from ≤ length l.bytes;
  marks : MarksBelow l.class l.bytes l.from l.set;
}

abbrev pub decreases-loop-from : goal.decreases-loop-from
decreases-loop-from l = length l.bytes - l.from
