use Rattle.std.proofs.Common.{◌∙◌, All, List, map, subst, sym, arith}
use Rattle.std.proofs.lemmas.Bool.{false≢true}
use Rattle.std.proofs.lemmas.List.{length-map, take_all}
use Rattle.sig_product.proofs.Exports.{place}
use Rattle.sig_table.specs.declared.ids.SigId.{SigId}
use Rattle.sig_find.specs.Inclusions.{IsIncluded, IsInclusion}
use Rattle.sig_find.proofs.AdditionLemmas.{one_more_included}
use Rattle.sig_find.proofs.RisingLemmas.{place_is_there}
use Rattle.sig_find.proofs.addition.decide_escape.Goals as goal
use Rattle.sig_find.proofs.addition.decide_escape.Goals.{in-Included, in-Unknown}

pub decide_inclusion-requires-clause-signature : goal.decide_inclusion-requires-clause-signature
decide_inclusion-requires-clause-signature c =
    let long = length-map c.args.own.now (λ (s : SigId). s.0) in
    let read = c.requires.own c.loop-s.s-index 0 (let test = c.loop-s-test.true in omega (arith, long)) in
    rw (place c.args.own.now c.loop-s.s-index) at read

pub loop-s-preserved : goal.loop-s-preserved
loop-s-preserved c = elim c.match-branch-2.branch [
  | in-Included w ↦
      let included = subst (IsInclusion c.args.table.now _ (map (λ (b : SigId). b.0) c.args.others.now) c.args.budget) w.in-Included.is
      c.in_ok-decide_inclusion.ensures in
      record {
        included = λ known. one_more_included c.args.table.now (map (λ (b : SigId). b.0) c.args.others.now) c.args.own.now c.loop-s.s-index _ c.loop-s-test.true
            (c.loop-s.invariant.included (sym w.unknown-is ∙ known)) included;
        beyond = λ known. c.loop-s.invariant.beyond (sym w.unknown-is ∙ known);
      }
  | in-Unknown w ↦
      let beyond = subst (IsInclusion c.args.table.now _ (map (λ (b : SigId). b.0) c.args.others.now) c.args.budget) w.in-Unknown.is
      c.in_ok-decide_inclusion.ensures in
      record {
        included = λ known. absurd (false≢true (sym known ∙ w.unknown-is));
        beyond = λ known. record { signature = _; is_own = place_is_there c.args.own.now c.loop-s.s-index c.loop-s-test.true; beyond = beyond };
      }
]

pub returns-then-unknown : goal.returns-then-unknown
returns-then-unknown c = c.loop-s.invariant.beyond c.if-unknown.true

pub returns-else-unknown : goal.returns-else-unknown
returns-else-unknown c =
    let all = c.loop-s.invariant.included c.if-unknown.false in
    let test = c.loop-s-test.false in
    subst (λ (own : List SigId). All (λ s. IsIncluded c.args.table.now s (map (λ (b : SigId). b.0) c.args.others.now)) (map (λ (s : SigId). s.0) own))
    (take_all c.loop-s.s-index c.args.own.now (omega arith)) all
