use Rattle.sig_lint.proofs.KnownLemmas.{every_name_is_known}
use Rattle.sig_lint.proofs.laws.every_name_is_known.Goals as goal

pub returns : goal.returns
returns c = every_name_is_known
