use Rattle.std.proofs.Common.{inl, inr}
use Rattle.sig_find.proofs.pair.one_is_dead.Goals as goal

pub returns-then-has_dead : goal.returns-then-has_dead
returns-then-has_dead c = λ dead table budget are. inl (c.has_dead.ensures c.if-has_dead.true table budget are)

pub returns : goal.returns
returns c = λ dead table budget are. inr (c.has_dead-2.ensures dead table budget are)
