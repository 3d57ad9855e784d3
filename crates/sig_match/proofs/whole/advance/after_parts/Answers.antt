use Rattle.std.proofs.Common.{◌<◌, arith, length}
use Rattle.sig_expr.specs.Words.{AlternativeWord}
use Rattle.sig_match.specs.Frontiers.{IsIn}
use Rattle.sig_match.proofs.GapLemmas.{IsBytes-from_slice, Reaches-no_gap}
use Rattle.sig_match.proofs.ItemLemmas.{Carries-cut, Carries-part, Carries-parts}
use Rattle.sig_match.proofs.whole.advance.after_parts.Goals as goal

pub loop-part-init : goal.loop-part-init
loop-part-init c =
    let file = c.args.file.now in
    let S = IsIn c.args.frontier.now in
    let bytes = IsBytes-from_slice c.args.file.now c.type_inv.file in
    let cut = c.in_ok-after_gap.ensures in
    record {
      within = λ a h. (cut.sound a h).within;
      carries = Carries-cut (AlternativeWord c.args.parts.now) file S c.after_gap.new.ends.items (λ a within h. Reaches-no_gap file S a bytes within h) cut;
    }

pub loop-part-preserved : goal.loop-part-preserved
loop-part-preserved c =
    let next = c.in_ok-after_part.ensures in
    let at : c.loop-part.part-index < length c.args.parts.now = omega arith in
    rw c.swap.ensures.x_after (record {
      within = λ a h. (next.sound a h).within;
      carries = Carries-part c.args.parts.now c.loop-part.part-index c.part-item.result c.part-item.result c.args.file.now (IsIn c.args.frontier.now) _ _ at
          c.part-item.is c.loop-part.invariant.carries (rw (← c.deref.ensures.value) next);
    })

pub returns : goal.returns
returns c =
    let inv = c.loop-part.invariant in
    Carries-parts c.args.parts.now c.loop-part.part-index c.args.file.now (IsIn c.args.frontier.now) c.loop-part.ends.items (omega arith) inv.within inv.carries
