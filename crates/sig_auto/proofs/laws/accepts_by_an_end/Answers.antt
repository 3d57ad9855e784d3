use Rattle.sig_auto.proofs.RunLaws.{accepts_by_an_end}
use Rattle.sig_auto.proofs.laws.accepts_by_an_end.Goals as goal

pub returns : goal.returns
returns c = accepts_by_an_end
