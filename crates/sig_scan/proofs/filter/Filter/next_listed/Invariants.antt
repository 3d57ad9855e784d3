use Rattle.sig_scan.proofs.Common.{◌≡◌, ◌+◌, ◌-◌, ◌%◌, ◌^◌, ◌<◌, ◌≤◌, length}
use Rattle.sig_scan.proofs.FilterLemmas.{ArePassed}
use Rattle.sig_scan.proofs.filter.Filter.next_listed.Given as goal

-- no entry stands so far
abbrev pub invariant-places : goal.invariant-places
invariant-places l = record {
  even : l.place % 2 ≡ 0;
  order : l.from ≤ l.place;
  few : l.place < 2 ^ 63 + 8;
  passed : ArePassed l.self l.bytes l.from l.place;
}

abbrev pub decreases-places : goal.decreases-places
decreases-places l = length l.bytes + 1 - l.place
