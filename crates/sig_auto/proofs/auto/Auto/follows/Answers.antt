use Rattle.sig_auto.proofs.Common.{arith}
use Rattle.sig_auto.proofs.CellLemmas.{follows_else, follows_then, in_slots, none_follows, out_of_slots}
use Rattle.sig_auto.proofs.auto.Auto.follows.Goals as goal

pub returns-then-p-slots : goal.returns-then-p-slots
returns-then-p-slots c = none_follows c.self.inside.cells.items _ c.args.self.now c.args.p c.args.q c.self.invariant.spells c.self.view_is
    (out_of_slots c.self.inside.cells.items _ _ c.args.self.now c.args.p c.slots.result c.self.invariant.spells c.self.view_is c.as_slice-cells.ensures.value
    c.slots.ensures (omega arith))

pub returns-then-has : goal.returns-then-has
returns-then-has c = follows_then c.self.inside.cells.items _ _ c.args.self.now c.args.p c.args.q c.of-behind.result c.has.result c.self.invariant.spells
    c.self.view_is c.as_slice-cells.ensures.value (in_slots c.self.inside.cells.items _ _ c.args.self.now c.args.p c.slots.result c.self.invariant.spells
    c.self.view_is c.as_slice-cells.ensures.value c.slots.ensures (omega arith)) c.of-behind.ensures.is c.has.ensures c.if-has.true

pub returns-else-has : goal.returns-else-has
returns-else-has c = follows_else c.self.inside.cells.items _ _ c.args.self.now c.args.p c.args.q c.of-behind.result c.has.result c.is_entered.result
    c.self.invariant.spells c.self.view_is c.as_slice-cells.ensures.value
    (in_slots c.self.inside.cells.items _ _ c.args.self.now c.args.p c.slots.result c.self.invariant.spells c.self.view_is c.as_slice-cells.ensures.value
    c.slots.ensures (omega arith)) c.of-behind.ensures.is c.has.ensures c.is_entered.ensures c.if-has.false
