use Rattle.std.proofs.Common.{◌≡◌, ◌+◌, ◌-◌, ◌≤◌, length}
use Rattle.sig_match.specs.Frontiers.{Gains, Reaches}
use Rattle.sig_match.specs.Runs.{IsThis}
use Rattle.sig_match.proofs.PartLemmas.{IsPassed}
use Rattle.sig_match.proofs.whole.run.add_after_run.Given as goal

-- the ends of the runs that begin below the offset are added
abbrev pub invariant-found : goal.invariant-found
invariant-found l = record {
  low : l.fn.interval.from ≤ l.left.from;
  to : l.left.to ≡ l.fn.interval.to;
  added : Gains (Reaches (IsThis l.run) l.file (IsPassed l.fn.interval l.left.from)) l.initial.ends.items l.ends.items;
}

abbrev pub decreases-found : goal.decreases-found
decreases-found l = (length l.file + 1) - l.left.from
