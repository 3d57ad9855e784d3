use Rattle.std.proofs.Common.{◌≡◌, ◌∙◌, codes, refl, sym, None, Some}
use Rattle.clap.specs.Matches.{found_of}
use Rattle.clap.specs.Words.{rows_of}
use Rattle.sig_command.proofs.RequestLemmas.{no_match}
use Rattle.sig_command.proofs.RowLemmas.{first_of-rows}
use Rattle.sig_command.proofs.args.match_request.Goals as goal

pub returns-in_err-table-clause-none : goal.returns-in_err-table-clause-none
returns-in_err-table-clause-none c = λ is.
    no_match (rows_of (found_of c.args.matches.now)) (λ table text texts named unlisted are. c.in_err-table.ensures.none refl table named)
    (λ table word named listed alone. c.in_err-table.ensures.none refl table named)

pub list_request-requires-clause-listed : goal.list_request-requires-clause-listed
list_request-requires-clause-listed c = first_of-rows (found_of c.args.matches.now) (codes "NAMES") ∙ sym c.in-Some.ensures

pub files_request-requires-clause-unlisted : goal.files_request-requires-clause-unlisted
files_request-requires-clause-unlisted c = first_of-rows (found_of c.args.matches.now) (codes "NAMES") ∙ sym c.in-None.ensures

pub returns-in-Some-clause-none : goal.returns-in-Some-clause-none
returns-in-Some-clause-none c = λ is.
    no_match (rows_of (found_of c.args.matches.now))
    (λ table text texts named unlisted are.
    let bad : Some c.in-Some.word.now ≡ None = c.in-Some.ensures ∙ sym (first_of-rows (found_of c.args.matches.now) (codes "NAMES")) ∙ unlisted in
    cc)
    (λ table word named listed alone. c.list_request.ensures.none is alone)

pub returns-in-None-clause-none : goal.returns-in-None-clause-none
returns-in-None-clause-none c = λ is.
    no_match (rows_of (found_of c.args.matches.now)) (λ table text texts named unlisted are. c.files_request.ensures.none is text texts are)
    (λ table word named listed alone.
    let bad : None ≡ Some word = c.in-None.ensures ∙ sym (first_of-rows (found_of c.args.matches.now) (codes "NAMES")) ∙ listed in
    cc)
