use Rattle.sig_auto.proofs.RunLaws.{runs_go_on}
use Rattle.sig_auto.proofs.laws.runs_go_on.Goals as goal

pub returns : goal.returns
returns c = runs_go_on
