use Rattle.sig_auto.proofs.Common.{arith, refl, row_tree}
use Rattle.sig_auto.proofs.BuildLemmas.{row_room, row_steps}
use Rattle.sig_auto.proofs.build.push_row.Goals as goal

pub joint_behind-next-requires : goal.joint_behind-next-requires
joint_behind-next-requires c = (row_room (row_tree c.args.row.now) c.args.row.now c.loop-j.j c.args.n c.args.front c.args.behind c.args.cells.now.items
    c.loop-j.cells.items c.as_slice.result.now c.loop-j.slots c.loop-j.from c.loop-j.invariant (omega arith) c.as_slice.ensures.value c.requires.few
    c.requires.short).1

pub push_slot-requires : goal.push_slot-requires
push_slot-requires c = (row_room (row_tree c.args.row.now) c.args.row.now c.loop-j.j c.args.n c.args.front c.args.behind c.args.cells.now.items
    c.loop-j.cells.items c.as_slice.result.now c.loop-j.slots c.loop-j.from c.loop-j.invariant (omega arith) c.as_slice.ensures.value c.requires.few
    c.requires.short).0

pub loop-j-preserved : goal.loop-j-preserved
loop-j-preserved c = row_steps (row_tree c.args.row.now) c.args.row.now c.loop-j.j c.args.n c.args.front c.args.behind c.args.cells.now.items
    c.loop-j.cells.items c.push_slot.new.cells.items c.loop-j.slots c.loop-j.from c.in_ok-slots.slots c.joint_behind-next.result c.as_slice.result.now _ _ _
    c.loop-j.invariant (omega arith) refl refl c.as_slice.ensures.value c.joint_behind-next.ensures c.in_ok-slots.ensures
