use Rattle.sig_auto.proofs.Common.{◌≡◌, [], drop, take, behind_these, between}
use Rattle.sig_auto.proofs.class_word.range_rows.Given as goal

-- both agree so far, and no row is made
abbrev pub invariant-loop-j : goal.invariant-loop-j
invariant-loop-j l = record {
  agreed : take l.j l.a ≡ take l.j l.b;
  none : l.rows.items ≡ [];
  rest : between l.a l.b ≡ behind_these (take l.j l.a) (between (drop l.j l.a) (drop l.j l.b));
}
