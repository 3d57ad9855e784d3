use Rattle.sig_command.proofs.OnceLemmas.{one_line}
use Rattle.sig_command.proofs.laws.accepted_tables_match_once.Goals as goal

pub returns : goal.returns
returns c = one_line
