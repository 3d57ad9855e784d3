use Rattle.sig_auto.proofs.Common.{arith, ap, sym, subst, ◌∙◌, Gap, ItemsSound, back_tree}
use Rattle.sig_auto.proofs.CellWholeLemmas.{item_is_sound, item_room, last_room, makes_item}
use Rattle.sig_auto.proofs.build.cells_of.Goals as goal

pub push_item-requires-clause-sound : goal.push_item-requires-clause-sound
push_item-requires-clause-sound c =
    item_is_sound c.items-items.result.now c.loop-j.j c.index-items-j.result (omega arith) c.index-items-j.is
    (subst ItemsSound (sym (c.items-items.ensures.items ∙ c.expr.ensures.items)) c.expr.ensures.sequence.expression.sound)

pub push_item-requires-clause-few : goal.push_item-requires-clause-few
push_item-requires-clause-few c =
    (item_room c.args.sequence.now c.items-items.result.now c.loop-j.j c.index-items-j.result c.loop-j.cells.items c.loop-j.slots
    c.expr.ensures.sequence c.loop-j.invariant (omega arith) c.index-items-j.is).0

pub push_item-requires-clause-short : goal.push_item-requires-clause-short
push_item-requires-clause-short c =
    (item_room c.args.sequence.now c.items-items.result.now c.loop-j.j c.index-items-j.result c.loop-j.cells.items c.loop-j.slots
    c.expr.ensures.sequence c.loop-j.invariant (omega arith) c.index-items-j.is).1

pub loop-j-preserved : goal.loop-j-preserved
loop-j-preserved c =
    makes_item c.args.sequence.now c.items-items.result.now c.loop-j.j c.index-items-j.result c.loop-j.cells.items c.push_item.new.cells.items
    c.loop-j.slots c.in_ok-slots-2.slots c.loop-j.invariant (omega arith) c.index-items-j.is c.in_ok-slots-2.ensures

pub push_gap-requires-2-clause-few : goal.push_gap-requires-2-clause-few
push_gap-requires-2-clause-few c =
    (last_room c.args.sequence.now c.items-items.result.now c.loop-j.j (Gap c.back_gap-back_min.result.0 c.back_gap-back_min.result.1)
    c.loop-j.cells.items c.loop-j.slots c.expr.ensures.sequence c.loop-j.invariant (omega arith)
    (ap back_tree (sym c.position-2.ensures) ∙ c.back_gap-back_min.ensures)).0

pub push_gap-requires-2-clause-short : goal.push_gap-requires-2-clause-short
push_gap-requires-2-clause-short c =
    (last_room c.args.sequence.now c.items-items.result.now c.loop-j.j (Gap c.back_gap-back_min.result.0 c.back_gap-back_min.result.1)
    c.loop-j.cells.items c.loop-j.slots c.expr.ensures.sequence c.loop-j.invariant (omega arith)
    (ap back_tree (sym c.position-2.ensures) ∙ c.back_gap-back_min.ensures)).1
