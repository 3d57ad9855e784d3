use Rattle.sig_scan.proofs.Common.{ℕ, ◌≤◌, ◌<◌, HasBit}
use Rattle.sig_scan.proofs.offsets.highest.Given as goal

-- none behind this offset
abbrev pub invariant-loop-to : goal.invariant-loop-to
invariant-loop-to l = record { order : l.to ≤ l.end; none : (k : ℕ) → l.to ≤ k → k < l.end → ¬ HasBit l.set k }

abbrev pub decreases-loop-to : goal.decreases-loop-to
decreases-loop-to l = l.to

abbrev pub invariant-loop-to-2 : goal.invariant-loop-to-2
invariant-loop-to-2 l = record { order : l.to ≤ l.end; none : (k : ℕ) → l.to ≤ k → k < l.end → ¬ HasBit l.set k }

abbrev pub decreases-loop-to-2 : goal.decreases-loop-to-2
decreases-loop-to-2 l = l.to
