use Rattle.std.proofs.Common.{◌≡◌, ◌↔◌, ℕ, ◌<◌, slice_index}
use Rattle.sig_bits.specs.ByteClasses.{Holds}
use Rattle.sig_bits.proofs.groups.Groups.lowest.Given as goal

-- the bytes so far that lead themselves
abbrev pub invariant-loop-b : goal.invariant-loop-b
invariant-loop-b l = (b : ℕ) → Holds l.lowest b ↔ ((b < l.b) × (slice_index l.lead-items b ≡ b))
