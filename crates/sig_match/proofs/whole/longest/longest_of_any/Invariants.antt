use Rattle.std.proofs.Common.{map, take}
use Rattle.sig_expr.specs.Words.{Word}
use Rattle.sig_expr.specs.declared.item.Item.TheVariants as item
use Rattle.sig_match.specs.Runs.{Bounds}
use Rattle.sig_match.proofs.whole.longest.longest_of_any.Given as goal

-- no word of those so far is longer
abbrev pub invariant-loop-alternative : goal.invariant-loop-alternative
invariant-loop-alternative l = Bounds (Word (item.Alt (map (λ v. v.items) (take l.alternative-index l.alternative-items)))) l.greatest
