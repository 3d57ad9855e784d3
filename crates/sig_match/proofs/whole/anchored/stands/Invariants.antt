use Rattle.std.proofs.Common.{◌≤◌, ◌-◌, drop, length}
use Rattle.sig_match.proofs.StandLemmas.{StillToCome}
use Rattle.sig_match.proofs.whole.anchored.stands.Given as goal

-- the rest of the items is still to come, from this frontier on
abbrev pub invariant-items : goal.invariant-items
invariant-items l = record {
  within : l.done ≤ length l.items;
  still : StillToCome l.position l.items (drop l.done l.items) l.file l.frontier.items;
}

abbrev pub decreases-items : goal.decreases-items
decreases-items l = length l.items - l.done
