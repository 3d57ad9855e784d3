use Rattle.sig_expr.proofs.ShortestLemmas.{expression_read}
use Rattle.sig_expr.proofs.laws.expression_is_read.Goals as goal

pub returns : goal.returns
returns c = expression_read
