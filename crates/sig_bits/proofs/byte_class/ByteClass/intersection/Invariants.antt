use Rattle.std.proofs.Common.{◌≡◌, ℕ, ◌<◌, ◌≤◌, length, slice_index, bit_and}
use Rattle.sig_bits.proofs.byte_class.ByteClass.intersection.Given as goal

-- the bytes so far have their common bits, and the others are as they were
abbrev pub invariant-loop-i : goal.invariant-loop-i
invariant-loop-i l = record {
  room : length l.bits ≡ 32;
  common : (k : ℕ) → k < l.i → slice_index l.bits k ≡ bit_and (slice_index l.fn.self.bits k) (slice_index l.fn.other.bits k);
  kept : (k : ℕ) → l.i ≤ k → slice_index l.bits k ≡ slice_index l.fn.self.bits k;
}
