use Rattle.sig_expr.proofs.ProfileLemmas.{read_text}
use Rattle.sig_expr.proofs.laws.spelled_is_read.Goals as goal

pub returns : goal.returns
returns c = read_text
