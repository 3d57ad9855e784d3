use Rattle.std.proofs.Common.{sym, sum_by}
use Rattle.sig_table.specs.Slots.{item_slots, position_slots, slot_count}
use Rattle.sig_table.proofs.SlotLemmas.{past-items, past-position, within-items}
use Rattle.sig_table.proofs.slots.count_slots.Goals as goal

pub returns-in_default : goal.returns-in_default
unfolding slot_count
returns-in_default c =
    let none = rw c.position_slots.ensures at (sym c.in_default.ensures) in
    past-position (position_slots c.args.position) (sum_by item_slots c.args.items.now) none

pub returns-in-Some-budget_after_items : goal.returns-in-Some-budget_after_items
unfolding slot_count
returns-in-Some-budget_after_items c =
    let some = rw c.position_slots.ensures at (sym c.in-Some.ensures) in
    within-items (position_slots c.args.position) (sum_by item_slots c.args.items.now) c.in-Some.budget c.in-Some-budget_after_items.left some
    (sym c.in-Some-budget_after_items.ensures)

pub returns-in-None : goal.returns-in-None
unfolding slot_count
returns-in-None c =
    let some = rw c.position_slots.ensures at (sym c.in-Some.ensures) in
    past-items (position_slots c.args.position) (sum_by item_slots c.args.items.now) c.in-Some.budget some (sym c.in-None.ensures)
