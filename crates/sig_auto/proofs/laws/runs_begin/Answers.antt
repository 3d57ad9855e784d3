use Rattle.sig_auto.proofs.RunLaws.{runs_begin}
use Rattle.sig_auto.proofs.laws.runs_begin.Goals as goal

pub returns : goal.returns
returns c = runs_begin
