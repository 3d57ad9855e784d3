use Rattle.sig_auto.proofs.Common.{◌≡◌, ◌-◌, drop, length, entered_first}
use Rattle.sig_auto.proofs.behind.is_entered.Given as goal

abbrev pub invariant-loop-at : goal.invariant-loop-at
invariant-loop-at l = entered_first (drop l.from l.cells) l.q ≡ entered_first (drop l.at l.cells) l.q

abbrev pub decreases-loop-at : goal.decreases-loop-at
decreases-loop-at l = length l.cells - l.at
