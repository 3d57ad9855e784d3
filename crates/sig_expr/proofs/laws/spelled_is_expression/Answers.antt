use Rattle.sig_expr.proofs.ShortestLemmas.{is_expression}
use Rattle.sig_expr.proofs.laws.spelled_is_expression.Goals as goal

pub returns : goal.returns
returns c = is_expression
