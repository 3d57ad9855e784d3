use Rattle.sig_table.proofs.TableAgainLemmas.{ranked_again}
use Rattle.sig_table.proofs.laws.written_priorities_are_loaded.Goals as goal

pub returns : goal.returns
returns c = ranked_again
