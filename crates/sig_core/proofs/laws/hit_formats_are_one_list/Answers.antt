use Rattle.sig_core.proofs.OneListLemmas.{one_list}
use Rattle.sig_core.proofs.laws.hit_formats_are_one_list.Goals as goal

pub returns : goal.returns
returns c = one_list
