use Rattle.sig_expr.proofs.LawLemmas.{read_expression}
use Rattle.sig_expr.proofs.laws.read_is_expression.Goals as goal

pub returns : goal.returns
returns c = read_expression
