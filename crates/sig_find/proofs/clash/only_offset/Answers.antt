use Rattle.std.proofs.Common.{sym, ◌∙◌}
use Rattle.sig_find.proofs.ClashLemmas.{begins_at}
use Rattle.sig_find.proofs.clash.only_offset.Goals as goal

pub returns-in-Bof : goal.returns-in-Bof
returns-in-Bof c = λ file stands. begins_at c.args.sequence.now c.in-Bof.min c.in-Bof.max file (sym c.position.ensures ∙ c.in-Bof.is) c.if-min-max.true stands
