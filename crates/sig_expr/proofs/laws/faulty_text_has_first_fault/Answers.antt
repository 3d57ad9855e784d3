use Rattle.sig_expr.proofs.FirstFaultLemmas.{faulty_first}
use Rattle.sig_expr.proofs.laws.faulty_text_has_first_fault.Goals as goal

pub returns : goal.returns
returns c = faulty_first
