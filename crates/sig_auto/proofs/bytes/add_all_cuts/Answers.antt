use Rattle.sig_auto.proofs.Common.{◌≡◌, ◌∙◌, ◌+◌, ap, arith, get_or, inl, inr, subst, cases_lt, get_or_default, get_or_from_slice_get, slice_get_within}
use Rattle.sig_auto.proofs.Common.{SameSide}
use Rattle.sig_auto.proofs.bytes.add_all_cuts.Goals as goal

pub loop-cell-preserved : goal.loop-cell-preserved
loop-cell-preserved c = record {
  kept = λ b had. c.add_cuts.ensures.kept b (c.loop-cell.invariant.kept b had);
  cuts = λ b small out.
      let cells = c.args.cells.now in
      let i = c.loop-cell.cell-index in
      let more = c.add_cuts.ensures.cuts b small out in
      let before = c.loop-cell.invariant.cuts b small more.0 in (
        before.0,
        λ k d low at. elim (cases_lt k i) [
          | inl early ↦ before.1 k d early at
          | inr late ↦ (
              let last : i ≡ k = omega arith in
              subst (λ x. SameSide x.class b (b + 1))
              (get_or_default cells i _ d c.loop-cell-test.true ∙ ap (λ n. get_or cells n d) last ∙ get_or_from_slice_get cells k d d at) more.1)
        ],
      );
}

pub returns-clause-cuts : goal.returns-clause-cuts
returns-clause-cuts c b small out =
    let all = c.loop-cell.invariant.cuts b small out in
    (all.0, λ k d at. all.1 k d (let within = slice_get_within c.args.cells.now k d at in omega (arith, within, c.loop-cell-test.false)) at)
