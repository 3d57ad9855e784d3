use Rattle.sig_scan.proofs.Common.{◌≡◌, ◌≤◌, ◌<◌, ℕ, byte_of}
use Rattle.sig_scan.proofs.filter.text_count.Given as goal

-- the places so far have one byte each
abbrev pub invariant-loop-k : goal.invariant-loop-k
invariant-loop-k l = (k : ℕ) → l.window ≤ k → k < l.k → byte_of l.literal k 0 ≡ byte_of l.literal k 1
