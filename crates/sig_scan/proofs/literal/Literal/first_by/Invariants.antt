use Rattle.sig_scan.proofs.Common.{◌+◌, ◌-◌, ◌≤◌, length, Nowhere, StandsAt}
use Rattle.sig_scan.proofs.literal.Literal.first_by.Given as goal

-- it stands nowhere so far
abbrev pub invariant-places : goal.invariant-places
invariant-places l = record {
  order : l.from ≤ l.place;
  within : l.place ≤ l.last + 1;
  nowhere : Nowhere (StandsAt l.self l.bytes) l.from l.place;
}

abbrev pub decreases-places : goal.decreases-places
decreases-places l = length l.bytes - l.place
