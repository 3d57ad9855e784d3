use Rattle.std.proofs.Common.{◌≡◌, ◌≢◌, ◌∙◌, ◌≤◌, ℕ, arith, slice_index, subst, sym}
use Rattle.std.proofs.lemmas.Bool.{false≢true}
use Rattle.sig_bits.specs.Groups.{SameSide}
use Rattle.sig_bits.proofs.GroupLemmas.{HasOther, SplitSoFar, got_other, had_other, none_split, other_split, same_split, split_leads, split_together}
use Rattle.sig_bits.proofs.groups.split.Goals as goal
use Rattle.sig_bits.proofs.groups.split.Goals.{then-others-lead-eq0, else-others-lead-eq0}

pub loop-b-init : goal.loop-b-init
loop-b-init c = none_split c.args.leads.now c.args.first c.args.last c.told-leads

pub loop-b-preserved-then-same_side : goal.loop-b-preserved-then-same_side
loop-b-preserved-then-same_side c = same_split _ _ _ _ _ _ c.loop-b.invariant (c.same_side.ensures.0 c.if-same_side.true)

pub loop-b-preserved : goal.loop-b-preserved
loop-b-preserved c =
    let old = c.args.leads.now in
    let b = c.loop-b.b in
    let first = c.args.first in
    let last = c.args.last in
    let lead : ℕ = slice_index old b in
    let low : lead ≤ b = c.requires.low b c.loop-b-test.true in
    let no_side : SameSide first last b lead → ⊥ = λ side. false≢true (sym c.if-same_side.false ∙ c.same_side.ensures.1 side) in
    other_split old c.loop-b.split c.loop-b.others c.if-others-lead-eq0.others first last b c.loop-b.invariant c.loop-b-test.true no_side
    (elim c.if-others-lead-eq0.branch [
      | then-others-lead-eq0 w ↦
          let some : b ≢ 0 = λ zero. no_side (let same : lead ≡ b = omega arith in subst (SameSide first last b) (sym same) (λ k. k, λ k. k)) in
          subst (λ l. HasOther c.loop-b.others l lead b) (sym w.others-is)
          (got_other c.loop-b.others lead b c.loop-b.invariant.wide (omega (arith, low, c.loop-b-test.true)) w.if-others-lead-eq0.true some)
      | else-others-lead-eq0 w ↦
          subst (λ l. HasOther c.loop-b.others l lead b) (sym w.others-is)
          (had_other old c.loop-b.split c.loop-b.others first last b lead c.loop-b.invariant w.if-others-lead-eq0.false)
    ])

pub returns-clause-leads : goal.returns-clause-leads
returns-clause-leads c =
    let all : c.loop-b.b ≡ 256 = omega arith in
    let so = subst (SplitSoFar c.args.leads.now c.loop-b.split c.loop-b.others c.args.first c.args.last) all c.loop-b.invariant in
    split_leads c.args.leads.now c.loop-b.split c.loop-b.others c.args.first c.args.last c.requires so.done (λ lead _. so.found lead)

pub returns-clause-split : goal.returns-clause-split
returns-clause-split c =
    let all : c.loop-b.b ≡ 256 = omega arith in
    let so = subst (SplitSoFar c.args.leads.now c.loop-b.split c.loop-b.others c.args.first c.args.last) all c.loop-b.invariant in
    split_together c.args.leads.now c.loop-b.split c.loop-b.others c.args.first c.args.last c.requires so.done (λ lead _. so.found lead)
