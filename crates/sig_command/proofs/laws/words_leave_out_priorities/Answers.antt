use Rattle.std.proofs.Common.{refl}
use Rattle.clap.proofs.OnLiterals.{clap_on_literals}
use Rattle.sig_command.proofs.laws.words_leave_out_priorities.Goals as goal

pub returns : goal.returns
unfolding clap_on_literals
returns c = record { taken = refl; tables = refl; files = refl; values = refl; no_second = refl; no_value = refl }
