use Rattle.std.proofs.Common.{take}
use Rattle.sig_expr.specs.Words.{Word}
use Rattle.sig_expr.specs.declared.item.Item.TheVariants as item
use Rattle.sig_match.specs.Frontiers.{IsIn, Gains, Reaches}
use Rattle.sig_match.proofs.whole.advance.after_gap.Given as goal

-- the ends of the gaps that begin in the intervals so far
abbrev pub invariant-loop-interval : goal.invariant-loop-interval
invariant-loop-interval l = Gains (Reaches (Word (item.Gap l.min l.max)) l.file (IsIn (take l.interval-index l.frontier))) l.initial.ends.items l.ends.items
