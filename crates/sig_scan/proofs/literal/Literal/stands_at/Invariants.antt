use Rattle.sig_scan.proofs.Common.{ℕ, ◌+◌, ◌<◌, slice_index, Fits}
use Rattle.sig_scan.proofs.literal.Literal.stands_at.Given as goal

-- the bytes so far fit
abbrev pub invariant-loop-k : goal.invariant-loop-k
invariant-loop-k l = (j : ℕ) → j < l.k → Fits l.self j (slice_index l.bytes (l.place + j))
