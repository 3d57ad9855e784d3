use Rattle.sig_scan.proofs.Common.{◌≡◌, ℕ, ◌<◌, ◌≤◌, slice_index, bit_and}
use Rattle.sig_scan.proofs.marks.and_into.Given as goal

-- the bytes so far are those of both, and the others are as they were
abbrev pub invariant-loop-i : goal.invariant-loop-i
invariant-loop-i l = record {
  common : (k : ℕ) → k < l.i → slice_index l.dst k ≡ bit_and (slice_index l.fn.dst k) (slice_index l.src k);
  kept : (k : ℕ) → l.i ≤ k → slice_index l.dst k ≡ slice_index l.fn.dst k;
}
