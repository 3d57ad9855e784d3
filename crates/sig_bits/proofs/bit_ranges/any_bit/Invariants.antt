use Rattle.std.proofs.Common.{ℕ, ◌<◌, ◌≤◌}
use Rattle.sig_bits.specs.BitSets.{HasBit}
use Rattle.sig_bits.proofs.bit_ranges.any_bit.Given as goal

-- no bit so far is set
abbrev pub invariant-loop-i : goal.invariant-loop-i
invariant-loop-i l = (j : ℕ) → l.from ≤ j → j < l.i → HasBit l.bits j → ⊥
