use Rattle.sig_scan.proofs.Common.{◌≡◌, ◌+◌, ◌-◌, ◌%◌, ◌^◌, ◌<◌, length, AreOwned}
use Rattle.sig_scan.proofs.FilterLemmas.{ArePassedBelow}
use Rattle.sig_scan.proofs.filter.Filter.look.Given as goal

-- what is found so far
abbrev pub invariant-places : goal.invariant-places
invariant-places l = record {
  even : l.place % 2 ≡ 0;
  few : l.place < 2 ^ 63 + 8;
  owned : AreOwned l.self l.states (length l.bytes) l.end l.fn.found l.found;
  passed : ArePassedBelow l.self l.front l.states l.place l.found;
}

abbrev pub decreases-places : goal.decreases-places
decreases-places l = length l.front + 1 - l.place
