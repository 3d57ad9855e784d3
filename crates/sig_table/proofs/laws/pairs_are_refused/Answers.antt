use Rattle.sig_table.proofs.PairFaultLemmas.{pair_is_refused}
use Rattle.sig_table.proofs.laws.pairs_are_refused.Goals as goal

pub returns : goal.returns
returns c formats n fields fault = pair_is_refused formats n fields fault
