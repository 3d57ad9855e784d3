use Rattle.sig_scan.proofs.Common.{map, take, HasBit, GainsBits}
use Rattle.sig_scan.proofs.ItemLemmas.{ReachesAny}
use Rattle.sig_scan.proofs.frontier.add_alternatives.Given as goal

-- the ends of the words of the alternatives so far
abbrev pub invariant-loop-atoms : goal.invariant-loop-atoms
invariant-loop-atoms l =
    GainsBits (ReachesAny (map (λ v. v.items) (take l.atoms-index l.atoms-items)) l.bytes (HasBit l.starts)) l.initial.ends l.ends
