use Rattle.std.proofs.Common.{◌-◌, ◌≤◌, slice_index}
use Rattle.sig_bits.specs.Joined.{IsJoined}
use Rattle.sig_bits.proofs.bit_ranges.any_byte.Given as goal

-- every byte so far is 0
abbrev pub invariant-loop-from : goal.invariant-loop-from
invariant-loop-from l = (l.first ≤ l.from) × (l.from ≤ l.last) × IsJoined (slice_index l.bits) l.first l.from 0

abbrev pub decreases-loop-from : goal.decreases-loop-from
decreases-loop-from l = l.last - l.from
