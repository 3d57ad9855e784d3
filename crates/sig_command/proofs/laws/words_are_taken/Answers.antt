use Rattle.std.proofs.Common.{refl}
use Rattle.clap.proofs.OnLiterals.{clap_on_literals}
use Rattle.sig_command.proofs.laws.words_are_taken.Goals as goal

pub returns : goal.returns
unfolding clap_on_literals
returns c = record { taken = refl; no_fault = refl; refused = refl; help = refl; version = refl }
