use Rattle.sig_scan.proofs.Common.{◌*◌, ◌↔◌, ◌⊎◌, ℕ, HasBit, IsBetween}
use Rattle.sig_scan.proofs.offsets.add_bytes.Given as goal

-- the bytes so far
abbrev pub invariant-loop-k : goal.invariant-loop-k
invariant-loop-k l = (j : ℕ) → HasBit l.set j ↔ (HasBit l.initial.set j ⊎ IsBetween (8 * l.first) (8 * l.k) j)
