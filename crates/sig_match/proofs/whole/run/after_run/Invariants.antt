use Rattle.std.proofs.Common.{take}
use Rattle.sig_match.specs.Frontiers.{IsIn, Gains, Reaches}
use Rattle.sig_match.specs.Runs.{IsThis}
use Rattle.sig_match.proofs.whole.run.after_run.Given as goal

-- the ends of the runs that begin in the intervals so far
abbrev pub invariant-loop-interval : goal.invariant-loop-interval
invariant-loop-interval l = Gains (Reaches (IsThis l.run) l.file (IsIn (take l.interval-index l.frontier))) l.initial.ends.items l.ends.items
