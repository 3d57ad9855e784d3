use Rattle.std.proofs.Common.{◌≡◌, drop, map, sum_by}
use Rattle.sig_table.specs.Budgets.{minus}
use Rattle.sig_table.specs.Slots.{atom_slots}
use Rattle.sig_table.proofs.slots.budget_after_alternatives.Given as goal

-- what the alternatives from here on leave is what all leave
abbrev pub invariant-loop-alternative : goal.invariant-loop-alternative
invariant-loop-alternative l =
    minus l.fn.budget (sum_by (λ a. sum_by atom_slots a) (map (λ v. v.items) l.alternatives)) ≡ minus l.budget
    (sum_by (λ a. sum_by atom_slots a) (map (λ v. v.items) (drop l.alternative-index l.alternatives)))
