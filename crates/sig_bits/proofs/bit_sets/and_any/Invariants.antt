use Rattle.std.proofs.Common.{◌-◌, ◌≤◌, length}
use Rattle.sig_bits.specs.Joined.{IsJoined, common_at}
use Rattle.sig_bits.proofs.bit_sets.and_any.Given as goal

-- nothing was found so far
abbrev pub invariant-loop-from : goal.invariant-loop-from
invariant-loop-from l = (l.from ≤ length l.a) × IsJoined (common_at l.a l.b) 0 l.from 0

abbrev pub decreases-loop-from : goal.decreases-loop-from
decreases-loop-from l = length l.a - l.from
