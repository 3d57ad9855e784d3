use Rattle.std.proofs.Common.{◌≡◌, ℕ, ◌<◌, ◌≤◌, ◌↔◌, length}
use Rattle.sig_bits.specs.BitSets.{HasBit}
use Rattle.sig_bits.proofs.byte_class.ByteClass.range.Given as goal

-- the bits so far are set, and no others
abbrev pub invariant-loop-b : goal.invariant-loop-b
invariant-loop-b l = record {
  room : length l.bits ≡ 32;
  set : (j : ℕ) → HasBit l.bits j ↔ ((l.first ≤ j) × (j < l.b) × (j ≤ l.last));
}
