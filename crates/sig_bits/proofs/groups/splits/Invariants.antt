use Rattle.std.proofs.Common.{◌≡◌, ℕ, ◌<◌, false, slice_index}
use Rattle.sig_bits.specs.Groups.{SameSide}
use Rattle.sig_bits.proofs.groups.splits.Given as goal

-- no byte so far is told from its lead
abbrev pub invariant-loop-b : goal.invariant-loop-b
invariant-loop-b l = l.found ≡ false → (b : ℕ) → b < l.b → SameSide l.first l.last b (slice_index l.leads b)
