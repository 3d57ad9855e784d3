use Rattle.std.proofs.Common.{sym}
use Rattle.sig_table.proofs.PassingLemmas.{passed-pair, passed-unread_pair}
use Rattle.sig_table.proofs.passing.take_pair.Goals as goal

pub returns-in-Ok-clause-pairs : goal.returns-in-Ok-clause-pairs
returns-in-Ok-clause-pairs c = rw (passed-pair _ _ _ _ _ (sym c.in-Ok.ensures.pair)) at c.take.ensures.pairs

pub returns-in-Err-clause-pairs : goal.returns-in-Err-clause-pairs
returns-in-Err-clause-pairs c = passed-unread_pair _ _ _ _ _ (sym c.in-Err.ensures.pair)
