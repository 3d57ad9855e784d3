use Rattle.std.proofs.lemmas.Result.{err_from_is_err_and}
use Rattle.sig_table.specs.Loading.{records_of}
use Rattle.sig_table.proofs.FileFaultLemmas.{is_later}
use Rattle.sig_table.proofs.FileLemmas.{pairs_refused, pairs_told}
use Rattle.sig_table.proofs.loader.read_priorities.Goals as goal

pub returns-in_err-rows-clause-pairs : goal.returns-in_err-rows-clause-pairs
returns-in_err-rows-clause-pairs c =
    let p = err_from_is_err_and c.from_residual-in_err-rows.result c.from_residual-in_err-rows.ensures.1 in
    let file = records_of c.args.text.now in
    let empty = rw c.formats.ensures.formats at c.in_ok-start.ensures.start in
    let fault = pairs_refused c.args.draft.now.formats file c.in_ok-start.start empty _ c.in_err-rows.ensures in
    rw (p.1, p.2) (is_later c.args.draft.now.formats file _ fault, fault)

pub returns-clause-pairs : goal.returns-clause-pairs
returns-clause-pairs c =
    let empty = rw c.formats.ensures.formats at c.in_ok-start.ensures.start in
    let told = pairs_told c.args.draft.now.formats (records_of c.args.text.now) c.in_ok-start.start empty c.in_ok-rows.rows c.in_ok-rows.ensures in
    rw c.into_pairs.ensures.pairs told.1

pub returns-clause-limits : goal.returns-clause-limits
returns-clause-limits c =
    let empty = rw c.formats.ensures.formats at c.in_ok-start.ensures.start in
    let told = pairs_told c.args.draft.now.formats (records_of c.args.text.now) c.in_ok-start.start empty c.in_ok-rows.rows c.in_ok-rows.ensures in
    rw told.0 at c.into_pairs.ensures.limits
