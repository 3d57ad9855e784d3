use Rattle.sig_table.proofs.RowTextLemmas.{row_is_read, row_is_spelled}
use Rattle.sig_table.proofs.laws.rows_are_spelled.Goals as goal

pub returns : goal.returns
returns c n fields row = (row_is_spelled n fields row, row_is_read n fields row)
