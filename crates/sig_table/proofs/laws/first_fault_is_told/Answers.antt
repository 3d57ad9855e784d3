use Rattle.sig_table.proofs.SignatureRowLemmas.{is_fault_of, fault_is_given}
use Rattle.sig_table.proofs.laws.first_fault_is_told.Goals as goal

pub returns : goal.returns
returns c file x = (is_fault_of file x, fault_is_given file x)
