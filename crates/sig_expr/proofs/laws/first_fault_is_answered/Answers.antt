use Rattle.sig_expr.proofs.FirstFaultLemmas.{first_answered}
use Rattle.sig_expr.proofs.laws.first_fault_is_answered.Goals as goal

pub returns : goal.returns
returns c = first_answered
