use Rattle.sig_core.proofs.LeftLemmas.{Left-member}
use Rattle.sig_core.proofs.laws.left_is_not_outranked.Goals as goal

pub returns : goal.returns
returns c = Left-member
