use Rattle.sig_scan.proofs.Common.{take, BeginsWith}
use Rattle.sig_scan.proofs.literal.copy_run.Given as goal

-- the bytes of the items so far
abbrev pub invariant-loop-k : goal.invariant-loop-k
invariant-loop-k l = BeginsWith l.items (take l.k l.text) (take l.k l.other)
