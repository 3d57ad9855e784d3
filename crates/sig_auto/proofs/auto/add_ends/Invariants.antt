use Rattle.sig_auto.proofs.Common.{◌↔◌, ◌⊎◌, ℕ, ◌<◌, HasBit, EndsAt}
use Rattle.sig_auto.proofs.auto.add_ends.Given as goal

-- those below this number are added
abbrev pub invariant-loop-p : goal.invariant-loop-p
invariant-loop-p l = (q : ℕ) → HasBit l.set q ↔ (HasBit l.fn.set q ⊎ ((q < l.p) × EndsAt l.cells q))
