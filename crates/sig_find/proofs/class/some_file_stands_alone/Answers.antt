use Rattle.std.proofs.Common.{ℕ, List, map, subst}
use Rattle.sig_table.specs.declared.ids.SigId.{SigId}
use Rattle.sig_find.specs.Inclusions.{NoneHits}
use Rattle.sig_find.specs.Lives.{IsLifeOf, ShowsAlive}
use Rattle.sig_find.specs.declared.life.SignatureLife.{SignatureLife}
use Rattle.sig_find.proofs.ClassLemmas.{known_file_stands_alone, life_at, none_found, places_are_signatures, places_within}
use Rattle.sig_find.proofs.class.some_file_stands_alone.Goals as goal

pub first_that_hits-requires : goal.first_that_hits-requires
first_that_hits-requires c = places_within c.args.table.now c.args.task.b.0 c.args.others.now c.requires.others

pub returns-then-is_none : goal.returns-then-is_none
returns-then-is_none c = λ yes.
    let table = c.args.table.now in
    let own : SignatureLife = c.own-item.result in
    let others : List ℕ = map (λ (b : SigId). b.0) c.args.others.now in
    let life = life_at table c.args.task.a.0 c.args.task.budget c.args.lives.now c.loop-own.own-index own c.requires.lives c.loop-own-test.true c.own-item.is in
    let alive : ShowsAlive table c.args.task.a.0 own.signature.0 c.args.task.budget c.in-Alive.file.items =
    subst (IsLifeOf table c.args.task.budget c.args.task.a.0 own.signature.0) c.in-Alive.is life.1 in
    let told : NoneHits table others c.deref.result.now = none_found _ _ c.in_ok-first_that_hits.field-0 c.if-is_none.ensures c.in_ok-first_that_hits.ensures in
    known_file_stands_alone table c.args.task.a.0 c.args.task.b.0 own.signature.0 c.args.task.budget others c.in-Alive.file.items
    (places_are_signatures table c.args.task.b.0 c.args.others.now c.requires.others) alive
    (subst (NoneHits table others) c.deref.ensures.value told)
