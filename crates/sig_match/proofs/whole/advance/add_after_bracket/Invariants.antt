use Rattle.sig_expr.specs.Words.{PartWord}
use Rattle.sig_match.specs.Frontiers.{Gains, Reaches}
use Rattle.sig_match.proofs.PartLemmas.{IsPassed}
use Rattle.sig_match.proofs.whole.advance.add_after_bracket.Given as goal

-- the ends of the words that begin below the offset are added
abbrev pub invariant-loop-start : goal.invariant-loop-start
invariant-loop-start l = Gains (Reaches (PartWord l.part) l.file (IsPassed l.fn.interval l.start)) l.initial.ends.items l.ends.items
