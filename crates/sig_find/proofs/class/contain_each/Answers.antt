use Rattle.std.proofs.Common.{◌≡◌, ℕ, ◌+◌, [], ◌∷◌, ◌++◌, All, List, sym, ap, ◌∙◌, subst, take}
use Rattle.std.proofs.lemmas.Bool.{true≢false}
use Rattle.std.proofs.lemmas.List.{take_all, take_more}
use Rattle.std.proofs.lemmas.List.Elements.{All-push}
use Rattle.sig_find.specs.Classes.{IsContainmentOf, IsHeld, IsOpenOf}
use Rattle.sig_find.specs.declared.life.SignatureLife.{SignatureLife}
use Rattle.sig_find.proofs.ClassLemmas.{all_held, life_at}
use Rattle.sig_find.proofs.class.contain_each.Goals as goal
use Rattle.sig_find.proofs.class.contain_each.Goals.{in-Contained, in-Open}

pub contain_signature-requires-clause-of : goal.contain_signature-requires-clause-of
contain_signature-requires-clause-of c =
    (life_at c.args.table.now c.args.task.a.0 c.args.task.budget c.args.lives.now c.loop-own.own-index c.own-item.result c.requires.lives c.loop-own-test.true
    c.own-item.is).0

pub loop-own-preserved : goal.loop-own-preserved
loop-own-preserved c =
    let lives : List SignatureLife = c.args.lives.now in
    let i : ℕ = c.loop-own.own-index in
    let own : SignatureLife = c.own-item.result in
    let held : SignatureLife → Type 0 = λ o. IsHeld c.args.table.now c.args.task.a.0 c.args.task.b.0 o.signature.0 in
    let next : take (i + 1) lives ≡ take i lives ++ own ∷ [] = take_more lives i own c.loop-own-test.true ∙ ap (λ (o : SignatureLife). take i lives ++ o ∷ [])
    (sym c.own-item.is) in
    elim c.match-branch-2.branch [
      | in-Contained w ↦
          let one : held own = subst (IsContainmentOf c.args.table.now c.args.task.budget c.args.task.a.0 c.args.task.b.0 own.signature.0) w.in-Contained.is
          c.in_ok-contain_signature.ensures in
          record {
            held = λ closed. subst (All held) (sym next) (All-push held (take i lives) own (c.loop-own.invariant.held (sym w.open-is ∙ closed)) one);
            beyond = λ is_open. c.loop-own.invariant.beyond (sym w.open-is ∙ is_open);
          }
      | in-Open w ↦
          let one : IsOpenOf c.args.table.now c.args.task.budget c.args.task.b.0 own.signature.0 =
          subst (IsContainmentOf c.args.table.now c.args.task.budget c.args.task.a.0 c.args.task.b.0 own.signature.0) w.in-Open.is
          c.in_ok-contain_signature.ensures in
          record {
            held = λ closed. absurd (true≢false (sym w.open-is ∙ closed));
            beyond = λ is_open. record {
              signature = own.signature.0;
              of = (life_at c.args.table.now c.args.task.a.0 c.args.task.budget lives i own c.requires.lives c.loop-own-test.true c.own-item.is).0;
              is_open = one;
            };
          }
    ]

pub returns-then-open : goal.returns-then-open
returns-then-open c = c.loop-own.invariant.beyond c.if-open.true

pub returns-else-open : goal.returns-else-open
returns-else-open c =
    let held : SignatureLife → Type 0 = λ o. IsHeld c.args.table.now c.args.task.a.0 c.args.task.b.0 o.signature.0 in
    all_held c.args.table.now c.args.task.a.0 c.args.task.b.0 c.args.task.budget c.args.lives.now c.requires.lives
    (subst (All held) (take_all c.loop-own.own-index c.args.lives.now c.loop-own-test.false) (c.loop-own.invariant.held c.if-open.false))
