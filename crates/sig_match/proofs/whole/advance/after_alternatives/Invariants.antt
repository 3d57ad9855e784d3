use Rattle.std.proofs.Common.{map, take}
use Rattle.sig_match.specs.Frontiers.{HasExactly, IsIn}
use Rattle.sig_match.proofs.ItemLemmas.{ReachesAny}
use Rattle.sig_match.proofs.whole.advance.after_alternatives.Given as goal

-- the ends of the words of the alternatives so far
abbrev pub invariant-loop-alternative : goal.invariant-loop-alternative
invariant-loop-alternative l =
    HasExactly (ReachesAny (map (λ v. v.items) (take l.alternative-index l.alternative-items)) l.file (IsIn l.frontier)) l.ends.items
