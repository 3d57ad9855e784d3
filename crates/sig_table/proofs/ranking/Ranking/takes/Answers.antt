use Rattle.std.proofs.Common.{◌≡◌, ◌↔◌, ◌∙◌, Bool, true, false, not, Option, Some, None, eq-eqb, refl, sym}
use Rattle.std.specs.Option.{is_some}
use Rattle.std.proofs.lemmas.Bool.{eqb-true, false≢true}
use Rattle.sig_table.proofs.AddedLemmas.{added, are_two}
use Rattle.sig_table.proofs.ranking.Ranking.takes.Goals as goal

-- what `is_none` tells
none_told : {A : Type 0} (o : Option A) (b : Bool) → is_some o ≡ not b → (b ≡ true) ↔ (o ≡ None)
none_told None true is = (λ t. refl, λ none. refl)
none_told None false is = absurd (false≢true is)
none_told (Some x) true is = absurd (false≢true (sym is))
none_told (Some x) false is = (λ t. absurd (false≢true t), λ none. absurd (cc none))

pub returns-then-eq : goal.returns-then-eq
returns-then-eq c = (
  λ t. absurd (false≢true t),
  λ more. absurd (are_two c.args.self.now.format_count c.args.self.now.pairs (c.args.higher.0, c.args.lower.0) more
      (eqb-true c.args.higher.0 c.args.lower.0 (sym c.eq.ensures ∙ c.if-eq.true))),
)

pub returns : goal.returns
returns c =
    let told = none_told c.fault.result c.is_none.result c.is_none.ensures in
    let two : c.args.higher.0 ≡ c.args.lower.0 → ⊥ = λ same. false≢true (sym c.if-eq.false ∙ c.eq.ensures ∙ eq-eqb c.args.higher.0 c.args.lower.0 same) in
    let law = added c.args.self.now.format_count c.args.self.now.pairs 0 (c.args.higher.0, c.args.lower.0) (rw (← c.self.view_is) c.self.invariant.priorities)
    c.requires.higher c.requires.lower two in
    let fault = rw c.new.ensures at c.fault.ensures.fault in
    (λ t. law.0 (sym fault ∙ told.0 t), λ more. told.1 (fault ∙ law.1 more))
