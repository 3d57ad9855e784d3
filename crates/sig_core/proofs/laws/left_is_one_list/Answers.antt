use Rattle.sig_core.proofs.LeftLemmas.{one_left}
use Rattle.sig_core.proofs.laws.left_is_one_list.Goals as goal

pub returns : goal.returns
returns c = one_left
