use Rattle.sig_scan.proofs.Common.{◌≡◌, ◌+◌, ◌-◌, ◌%◌, ◌^◌, ◌<◌, ◌≤◌, length}
use Rattle.sig_scan.proofs.FilterLemmas.{AreUnmarked}
use Rattle.sig_scan.proofs.filter.next_marked.Given as goal

-- no place so far is marked
abbrev pub invariant-fours : goal.invariant-fours
invariant-fours l = record {
  even : l.place % 2 ≡ 0;
  order : l.from ≤ l.place;
  few : l.place < 2 ^ 63 + 8;
  unmarked : AreUnmarked l.marks l.bytes l.from l.place;
}

abbrev pub decreases-fours : goal.decreases-fours
decreases-fours l = length l.bytes + 1 - l.place

abbrev pub invariant-ones : goal.invariant-ones
invariant-ones l = record {
  even : l.place % 2 ≡ 0;
  order : l.from ≤ l.place;
  few : l.place < 2 ^ 63 + 8;
  unmarked : AreUnmarked l.marks l.bytes l.from l.place;
}

abbrev pub decreases-ones : goal.decreases-ones
decreases-ones l = length l.bytes + 1 - l.place
