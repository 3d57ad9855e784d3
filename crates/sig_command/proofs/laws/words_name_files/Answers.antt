use Rattle.std.proofs.Common.{refl}
use Rattle.clap.proofs.OnLiterals.{clap_on_literals}
use Rattle.sig_command.proofs.laws.words_name_files.Goals as goal

pub returns : goal.returns
unfolding clap_on_literals
returns c = record { tables = refl; files = refl; values = refl; read = refl }
