use Rattle.std.proofs.Common.{◌≡◌, ℕ, ◌<◌, ◌≤◌, slice_index, bit_or}
use Rattle.sig_bits.proofs.RangeLemmas.{shifted_at}
use Rattle.sig_bits.proofs.bit_ranges.shift_bytes.Given as goal

-- the bytes so far are shifted, and the others are as they were
abbrev pub invariant-loop-k : goal.invariant-loop-k
invariant-loop-k l = record {
  shifted : (m : ℕ) → l.first ≤ m → m < l.k → slice_index l.dst m ≡ bit_or (slice_index l.fn.dst m) (shifted_at l.src m);
  before : (m : ℕ) → m < l.first → slice_index l.dst m ≡ slice_index l.fn.dst m;
  behind : (m : ℕ) → l.k ≤ m → slice_index l.dst m ≡ slice_index l.fn.dst m;
}
