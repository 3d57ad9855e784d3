use Rattle.sig_table.proofs.RowFaultLemmas.{row_is_refused}
use Rattle.sig_table.proofs.laws.rows_are_refused.Goals as goal

pub returns : goal.returns
returns c n fields fault = row_is_refused n fields fault
