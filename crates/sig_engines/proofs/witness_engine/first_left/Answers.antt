use Rattle.sig_match.proofs.Exports.{IsBytes-from_slice}
use Rattle.sig_engines.proofs.witness_engine.first_left.Goals as goal

pub returns-clause-bytes : goal.returns-clause-bytes
returns-clause-bytes c = IsBytes-from_slice c.args.file.now c.type_inv.file
