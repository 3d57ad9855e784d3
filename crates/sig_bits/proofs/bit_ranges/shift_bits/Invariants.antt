use Rattle.std.proofs.Common.{ℕ, ◌↔◌, ◌⊎◌}
use Rattle.sig_bits.specs.BitSets.{HasBit, IsShiftedBit}
use Rattle.sig_bits.proofs.bit_ranges.shift_bits.Given as goal

-- the bits so far are shifted
abbrev pub invariant-loop-i : goal.invariant-loop-i
invariant-loop-i l = (j : ℕ) → HasBit l.dst j ↔ (HasBit l.fn.dst j ⊎ IsShiftedBit l.src l.from l.i j)
