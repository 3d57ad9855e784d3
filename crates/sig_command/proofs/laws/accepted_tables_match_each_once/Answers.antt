use Rattle.sig_command.proofs.OnceLemmas.{one_line_each}
use Rattle.sig_command.proofs.laws.accepted_tables_match_each_once.Goals as goal

pub returns : goal.returns
returns c = one_line_each
