use Rattle.sig_scan.proofs.Common.{◌↔◌, ◌⊎◌, ℕ, HasBit, IsBetween}
use Rattle.sig_scan.proofs.offsets.add_bits.Given as goal

-- the offsets so far
abbrev pub invariant-loop-offset : goal.invariant-loop-offset
invariant-loop-offset l = (j : ℕ) → HasBit l.set j ↔ (HasBit l.initial.set j ⊎ IsBetween l.from l.offset j)
