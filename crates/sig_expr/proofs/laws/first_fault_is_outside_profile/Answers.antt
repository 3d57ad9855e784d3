use Rattle.sig_expr.proofs.FirstFaultLemmas.{first_faulty}
use Rattle.sig_expr.proofs.laws.first_fault_is_outside_profile.Goals as goal

pub returns : goal.returns
returns c = first_faulty
