use Rattle.std.proofs.Common.{take}
use Rattle.memchr.specs.Find.{OccursAt}
use Rattle.sig_match.specs.Frontiers.{Meets}
use Rattle.sig_match.proofs.whole.run.has_run.Given as goal

-- the run stands at no offset of the intervals so far
abbrev pub invariant-loop-interval : goal.invariant-loop-interval
invariant-loop-interval l = Meets (OccursAt l.file l.run) (take l.interval-index l.frontier) → ⊥
