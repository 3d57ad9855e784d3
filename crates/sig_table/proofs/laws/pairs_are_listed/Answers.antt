use Rattle.sig_table.proofs.PriorityRowLemmas.{are_pairs_of, pairs_are_given}
use Rattle.sig_table.proofs.laws.pairs_are_listed.Goals as goal

pub returns : goal.returns
returns c formats file x = (are_pairs_of formats file x, pairs_are_given formats file x)
