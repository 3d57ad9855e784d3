use Rattle.sig_expr.proofs.RefusalLemmas.{read_spells}
use Rattle.sig_expr.proofs.laws.read_is_spelled.Goals as goal

pub returns : goal.returns
returns c = read_spells
