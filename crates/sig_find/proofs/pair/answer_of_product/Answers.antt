use Rattle.std.proofs.Common.{inl, inr, subst}
use Rattle.std.proofs.lemmas.Option.{slice_get_within}
use Rattle.sig_find.specs.Answers.{IsDecision}
use Rattle.sig_find.specs.declared.decision.Decision.TheVariants as decision
use Rattle.sig_find.proofs.TriedLemmas.{decided_closed}
use Rattle.sig_find.proofs.pair.answer_of_product.Goals as goal

pub returns-in-Closed : goal.returns-in-Closed
returns-in-Closed c =
    let table = c.args.table.now in
    let decided : IsDecision table c.args.s.0 c.args.t.0 c.args.task.budget (decision.Closed c.in-Closed.blockers c.in-Closed.rows) =
    subst (IsDecision table c.args.s.0 c.args.t.0 c.args.task.budget) c.in-Closed.is c.in_ok-decide_product_directly.ensures in
    inl (decided_closed table c.args.s.0 c.args.t.0 c.args.task.budget c.in-Closed.blockers c.in-Closed.rows decided)

pub decide_product_directly-requires-clause-first : goal.decide_product_directly-requires-clause-first
decide_product_directly-requires-clause-first c = slice_get_within c.args.table.now.signatures c.args.s.0 c.requires.first.0 c.requires.first.1

pub decide_product_directly-requires-clause-second : goal.decide_product_directly-requires-clause-second
decide_product_directly-requires-clause-second c = slice_get_within c.args.table.now.signatures c.args.t.0 c.requires.second.0 c.requires.second.1

pub returns-then-one_is_dead : goal.returns-then-one_is_dead
returns-then-one_is_dead c = inr (inr (c.one_is_dead.ensures c.if-one_is_dead.true c.args.table.now c.args.task.budget c.requires.lives))
