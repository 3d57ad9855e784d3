use Rattle.sig_scan.proofs.Common.{◌≡◌, ◌↔◌, ◌⊎◌, ℕ, ◌+◌, ◌*◌, bit_at, HasBit, HasWord}
use Rattle.sig_scan.proofs.marks.add_word.Given as goal

-- the bits of the bytes so far are added, and the others are left
abbrev pub invariant-loop-k : goal.invariant-loop-k
invariant-loop-k l = record {
  left : (j : ℕ) → bit_at l.left j ≡ bit_at l.word (8 * l.k + j);
  added : (j : ℕ) → HasBit l.set j ↔ (HasBit l.initial.set j ⊎ HasWord l.word (8 * l.at) (8 * l.k) j);
}
