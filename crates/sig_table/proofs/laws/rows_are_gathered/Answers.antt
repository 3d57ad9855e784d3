use Rattle.sig_table.proofs.SignatureRowLemmas.{is_table_of, table_is_given}
use Rattle.sig_table.proofs.laws.rows_are_gathered.Goals as goal

pub returns : goal.returns
returns c file x = (is_table_of file x, table_is_given file x)
