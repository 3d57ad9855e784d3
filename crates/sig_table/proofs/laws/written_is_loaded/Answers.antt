use Rattle.sig_table.proofs.TableAgainLemmas.{signatures_again, table_again}
use Rattle.sig_table.proofs.laws.written_is_loaded.Goals as goal

pub returns : goal.returns
returns c = record { signatures = signatures_again; table = table_again }
