use Rattle.std.proofs.Common.{◌≡◌, drop, sum_by}
use Rattle.sig_table.specs.Budgets.{minus}
use Rattle.sig_table.specs.Slots.{item_slots}
use Rattle.sig_table.proofs.slots.budget_after_items.Given as goal

-- what the items from here on leave is what all leave
abbrev pub invariant-loop-item : goal.invariant-loop-item
invariant-loop-item l = minus l.fn.budget (sum_by item_slots l.items) ≡ minus l.budget (sum_by item_slots (drop l.item-index l.items))
