use Rattle.sig_match.proofs.GapLemmas.{IsBytes-from_slice}
use Rattle.sig_match.proofs.whole.hits_read.Goals as goal

pub returns-clause-bytes : goal.returns-clause-bytes
returns-clause-bytes c = IsBytes-from_slice c.args.file.now c.type_inv.file
