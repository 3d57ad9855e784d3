use Rattle.sig_scan.proofs.Common.{◌<◌, length}
use Rattle.sig_scan.proofs.literal.rarest_of.Given as goal

-- the best so far is a place of it
abbrev pub invariant-loop-k : goal.invariant-loop-k
invariant-loop-k l = 0 < length l.text → l.best < length l.text
