use Rattle.std.proofs.Common.{sym, ◌∙◌}
use Rattle.sig_table.proofs.PuidLemmas.{IsNumber-positive_of}
use Rattle.sig_table.proofs.puid.numbered.Goals as goal

pub invariant_of-result : goal.invariant_of-result
invariant_of-result c = IsNumber-positive_of c.args.digits.now c.in_ok-number.number (sym c.read_positive.ensures ∙ c.in_ok-number.was)
