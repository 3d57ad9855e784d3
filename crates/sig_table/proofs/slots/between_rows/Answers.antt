use Rattle.std.proofs.Common.{◌∙◌, sym, arith}
use Rattle.sig_table.proofs.SlotLemmas.{between_rows-end, shorter-end}
use Rattle.sig_table.proofs.slots.between_rows.Goals as goal

pub returns-clause-rows : goal.returns-clause-rows
returns-clause-rows c = sym (c.loop-i.invariant ∙ between_rows-end c.loop-i.i c.args.a.now c.args.b.now (shorter-end _ _ _ (omega arith)))
