use Rattle.std.proofs.Common.{◌≡◌, drop}
use Rattle.sig_table.specs.Slots.{between_rows}
use Rattle.sig_table.proofs.slots.between_rows.Given as goal

-- the two are alike so far
abbrev pub invariant-loop-i : goal.invariant-loop-i
invariant-loop-i l = between_rows l.a l.b ≡ between_rows (drop l.i l.a) (drop l.i l.b)
