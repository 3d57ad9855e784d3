use Rattle.sig_auto.proofs.RunLaws.{runs_accept_what_stands}
use Rattle.sig_auto.proofs.laws.runs_accept_what_stands.Goals as goal

pub returns : goal.returns
returns c = runs_accept_what_stands
