use Rattle.sig_table.proofs.PublicLemmas.{some_is_not_outranked}
use Rattle.sig_table.proofs.laws.some_is_not_outranked.Goals as goal

pub returns : goal.returns
returns c = some_is_not_outranked
