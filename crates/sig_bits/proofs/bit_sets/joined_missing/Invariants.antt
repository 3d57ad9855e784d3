use Rattle.sig_bits.specs.Joined.{missing_at}
use Rattle.sig_bits.specs.Joined.{IsJoined}
use Rattle.sig_bits.proofs.bit_sets.joined_missing.Given as goal

-- the bytes so far are joined
abbrev pub invariant-loop-k : goal.invariant-loop-k
invariant-loop-k l = IsJoined (missing_at l.a l.b) l.from l.k l.joined
