use Rattle.std.proofs.Common.{arith, ◌<◌, length, refl, sym, ◌∙◌, eq-eqb}
use borrow.Author.Tests.{ltb-true}
use Rattle.std.proofs.lemmas.Bool.{false≢true}
use Rattle.sig_match.proofs.FrontierLemmas.{Merged-left, Merged-swap, Merged-all}
use Rattle.sig_match.proofs.whole.frontier.union.Goals as goal
use Rattle.sig_match.proofs.whole.frontier.union.Goals.{then-i-a, else-i-a+then-j-b, then-j-b-2, else-j-b-2+then-i-a-2, else-j-b-2+else-i-a-2}

pub merge-preserved-then-a-i : goal.merge-preserved-then-a-i
merge-preserved-then-a-i c =
    let inv = c.merge.invariant in
    let at : c.merge.i < length c.args.a.now =
    elim c.if-j-b-2.branch [
      | then-j-b-2 w ↦ elim c.if-i-a.branch [ then-i-a v ↦ omega arith | else-i-a+then-j-b v ↦ absurd (omega arith) ]
      | else-j-b-2+then-i-a-2 w ↦ omega arith
      | else-j-b-2+else-i-a-2 w ↦ ltb-true _ _ (sym w.value-is ∙ c.if-a-i.true)
    ] in
    record {
      a_within = omega arith;
      b_within = inv.b_within;
      merged = Merged-left _ _ _ _ _ _ _ at refl inv.merged c.in_ok-add.ensures;
    }

pub bounds-b-j-else-a-i : goal.bounds-b-j-else-a-i
bounds-b-j-else-a-i c =
    let inv = c.merge.invariant in
    elim c.if-j-b-2.branch [
      | then-j-b-2 w ↦ absurd (false≢true (sym c.if-a-i.false ∙ w.value-is ∙ eq-eqb _ _ w.if-j-b-2.true))
      | else-j-b-2+then-i-a-2 w ↦ omega arith
      | else-j-b-2+else-i-a-2 w ↦ omega arith
    ]

pub merge-preserved : goal.merge-preserved
merge-preserved c =
    let inv = c.merge.invariant in
    let at : c.merge.j < length c.args.b.now =
    elim c.if-j-b-2.branch [
      | then-j-b-2 w ↦ absurd (false≢true (sym c.if-a-i.false ∙ w.value-is ∙ eq-eqb _ _ w.if-j-b-2.true))
      | else-j-b-2+then-i-a-2 w ↦ omega arith
      | else-j-b-2+else-i-a-2 w ↦ omega arith
    ] in
    record {
      a_within = inv.a_within;
      b_within = omega arith;
      merged = Merged-swap _ _ _ _ _ (Merged-left _ _ _ _ _ _ _ at refl (Merged-swap _ _ _ _ _ inv.merged) c.in_ok-add-2.ensures);
    }

pub returns : goal.returns
returns c =
    let inv = c.merge.invariant in
    Merged-all _ _ c.merge.i c.merge.j c.merge.both.items (omega arith) (omega arith) inv.merged
