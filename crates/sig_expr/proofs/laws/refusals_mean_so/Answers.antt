use Rattle.sig_expr.proofs.RefusalLemmas.{refusal_means}
use Rattle.sig_expr.proofs.laws.refusals_mean_so.Goals as goal

pub returns : goal.returns
returns c = refusal_means
