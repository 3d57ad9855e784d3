use Rattle.std.proofs.Common.{◌≡◌, drop}
use Rattle.sig_expr.specs.Faults.{are_all}
use Rattle.sig_expr.proofs.faults.is_all.Given as goal

-- what is said of the rest is said of all
abbrev pub invariant-loop-byte : goal.invariant-loop-byte
invariant-loop-byte l = are_all l.value (drop l.byte-index l.bytes) ≡ are_all l.value l.bytes
