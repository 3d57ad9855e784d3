use Rattle.sig_auto.proofs.Common.{◌≡◌, ◌-◌, drop, length, taken_first}
use Rattle.sig_auto.proofs.successors.next_taken.Given as goal

abbrev pub invariant-loop-at : goal.invariant-loop-at
invariant-loop-at l = taken_first l.byte (drop l.from l.cells) ≡ taken_first l.byte (drop l.at l.cells)

abbrev pub decreases-loop-at : goal.decreases-loop-at
decreases-loop-at l = length l.cells - l.at
