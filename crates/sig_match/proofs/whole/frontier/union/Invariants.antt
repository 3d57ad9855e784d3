use Rattle.std.proofs.Common.{◌≤◌, ◌+◌, ◌-◌, length}
use Rattle.sig_match.proofs.FrontierLemmas.{Merged}
use Rattle.sig_match.proofs.whole.frontier.union.Given as goal

abbrev pub invariant-merge : goal.invariant-merge
invariant-merge l = record {
  a_within : l.i ≤ length l.a;
  b_within : l.j ≤ length l.b;
  merged : Merged l.a l.b l.i l.j l.both.items;
}

abbrev pub decreases-merge : goal.decreases-merge
decreases-merge l = (length l.a - l.i) + (length l.b - l.j)
