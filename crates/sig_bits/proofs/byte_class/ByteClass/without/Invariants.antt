use Rattle.std.proofs.Common.{◌≡◌, ℕ, ◌<◌, ◌≤◌, slice_index, w8}
use Rattle.std.specs.Int.{bit_not}
use Rattle.sig_bits.proofs.byte_class.ByteClass.without.Given as goal

-- the bytes so far are turned, and the others are as they were
abbrev pub invariant-loop-byte : goal.invariant-loop-byte
invariant-loop-byte l = record {
  turned : (k : ℕ) → k < l.byte-index → slice_index l.byte-items k ≡ bit_not w8 (slice_index l.fn.self.bits k);
  kept : (k : ℕ) → l.byte-index ≤ k → slice_index l.byte-items k ≡ slice_index l.fn.self.bits k;
}
