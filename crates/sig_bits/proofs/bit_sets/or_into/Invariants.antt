use Rattle.std.proofs.Common.{◌≡◌, ℕ, ◌-◌, ◌<◌, ◌≤◌, bit_or, length, slice_index}
use Rattle.sig_bits.proofs.bit_sets.or_into.Given as goal

-- the bytes so far are joined, and the others are as they were
abbrev pub invariant-loop-from : goal.invariant-loop-from
invariant-loop-from l = record {
  within : l.from ≤ length l.dst;
  joined : (k : ℕ) → k < l.from → slice_index l.dst k ≡ bit_or (slice_index l.fn.dst k) (slice_index l.src k);
  kept : (k : ℕ) → l.from ≤ k → slice_index l.dst k ≡ slice_index l.fn.dst k;
}

abbrev pub decreases-loop-from : goal.decreases-loop-from
decreases-loop-from l = length l.dst - l.from

abbrev pub invariant-loop-k : goal.invariant-loop-k
invariant-loop-k l = record {
  joined : (k : ℕ) → k < l.k → slice_index l.dst k ≡ bit_or (slice_index l.fn.dst k) (slice_index l.src k);
  kept : (k : ℕ) → l.k ≤ k → slice_index l.dst k ≡ slice_index l.fn.dst k;
}
