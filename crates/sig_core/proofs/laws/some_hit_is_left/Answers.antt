use Rattle.sig_core.proofs.LeftLemmas.{kept_hits-some}
use Rattle.sig_core.proofs.laws.some_hit_is_left.Goals as goal

pub returns : goal.returns
returns c = kept_hits-some
