use Rattle.sig_scan.proofs.Common.{take, ◌-◌, ◌≤◌, AreFixed, IsLiteralOf}
use Rattle.sig_scan.proofs.literal.Literal.of.Given as goal

-- the best so far is a literal, and the items before the last one have one length in all
abbrev pub invariant-loop-i : goal.invariant-loop-i
invariant-loop-i l = record {
  best : IsLiteralOf l.items l.best;
  few : l.at ≤ 65535;
  fixed : AreFixed (take (l.i - 1) l.items) l.at;
}
