use Rattle.sig_core.proofs.Exports.{IfOk-hits}
use Rattle.sig_match.proofs.whole.search.is_hit.Goals as goal

pub returns : goal.returns
returns c = IfOk-hits c.args.table.now c.args.file.now c.args.signature.0 c.sequences_of.result.now c.all_stand.result c.sequences_of.ensures.sequences
    c.all_stand.ensures
