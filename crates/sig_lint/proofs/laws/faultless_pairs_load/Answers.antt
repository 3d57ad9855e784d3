use Rattle.sig_lint.proofs.PairsAgainLemmas.{faultless_pairs_load}
use Rattle.sig_lint.proofs.laws.faultless_pairs_load.Goals as goal

pub returns : goal.returns
returns c = faultless_pairs_load
