use Rattle.sig_scan.proofs.Common.{◌<◌, HasBit, PartWord, GainsBits, Reaches}
use Rattle.sig_scan.proofs.offsets.add_bracket.Given as goal

-- the ends so far
abbrev pub invariant-loop-end : goal.invariant-loop-end
invariant-loop-end l = GainsBits (λ end. Reaches (PartWord l.part) l.bytes (HasBit l.starts) end × (end < l.end)) l.initial.ends l.ends
