use Rattle.std.proofs.Common.{take}
use Rattle.sig_expr.specs.Words.{PartWord}
use Rattle.sig_match.specs.Frontiers.{IsIn, Gains, Reaches}
use Rattle.sig_match.proofs.whole.advance.after_bracket.Given as goal

-- the ends of the words that begin in the intervals so far
abbrev pub invariant-loop-interval : goal.invariant-loop-interval
invariant-loop-interval l = Gains (Reaches (PartWord l.part) l.file (IsIn (take l.interval-index l.frontier))) l.initial.ends.items l.ends.items
