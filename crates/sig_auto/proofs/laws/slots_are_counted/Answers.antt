use Rattle.sig_auto.proofs.RunLaws.{slots_are_counted}
use Rattle.sig_auto.proofs.laws.slots_are_counted.Goals as goal

pub returns : goal.returns
returns c = slots_are_counted
