use Rattle.sig_table.proofs.PriorityRowLemmas.{is_priority_fault_of, priority_fault_is_given}
use Rattle.sig_table.proofs.laws.first_priority_fault_is_told.Goals as goal

pub returns : goal.returns
returns c formats file x = (is_priority_fault_of formats file x, priority_fault_is_given formats file x)
