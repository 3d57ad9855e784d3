use Rattle.std.proofs.Common.{◌≡◌, drop, sum_by}
use Rattle.sig_table.specs.Budgets.{minus}
use Rattle.sig_table.specs.Slots.{atom_slots}
use Rattle.sig_table.proofs.slots.budget_after_atoms.Given as goal

-- what the parts from here on leave is what all leave
abbrev pub invariant-loop-atom : goal.invariant-loop-atom
invariant-loop-atom l = minus l.fn.budget (sum_by atom_slots l.atoms) ≡ minus l.budget (sum_by atom_slots (drop l.atom-index l.atoms))
