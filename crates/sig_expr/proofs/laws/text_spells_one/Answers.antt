use Rattle.sig_expr.proofs.UniqueLemmas.{spells_one}
use Rattle.sig_expr.proofs.laws.text_spells_one.Goals as goal

pub returns : goal.returns
returns c = spells_one
