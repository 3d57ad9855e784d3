use Rattle.sig_scan.proofs.Common.{ℕ, ◌≤◌, ◌<◌, ◌-◌, HasBit}
use Rattle.sig_scan.proofs.offsets.lowest.Given as goal

-- none so far
abbrev pub invariant-loop-from : goal.invariant-loop-from
invariant-loop-from l = record { order : l.least ≤ l.from; none : (k : ℕ) → l.least ≤ k → k < l.from → ¬ HasBit l.set k }

abbrev pub decreases-loop-from : goal.decreases-loop-from
decreases-loop-from l = l.end - l.from

abbrev pub invariant-loop-offset : goal.invariant-loop-offset
invariant-loop-offset l = (k : ℕ) → l.least ≤ k → k < l.offset → ¬ HasBit l.set k
