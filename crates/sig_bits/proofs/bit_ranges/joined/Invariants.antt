use Rattle.std.proofs.Common.{slice_index}
use Rattle.sig_bits.specs.Joined.{IsJoined}
use Rattle.sig_bits.proofs.bit_ranges.joined.Given as goal

-- the bytes so far are joined
abbrev pub invariant-loop-k : goal.invariant-loop-k
invariant-loop-k l = IsJoined (slice_index l.bits) l.from l.k l.joined
