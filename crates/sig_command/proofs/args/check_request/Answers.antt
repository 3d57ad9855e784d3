use Rattle.std.proofs.Common.{◌≡◌, ◌∙◌, codes, refl, sym, None, Some}
use Rattle.clap.specs.Matches.{found_of}
use Rattle.clap.specs.Words.{rows_of}
use Rattle.sig_command.proofs.RequestLemmas.{no_check}
use Rattle.sig_command.proofs.RowLemmas.{first_of-rows}
use Rattle.sig_command.proofs.args.check_request.Goals as goal

pub returns-clause-asked : goal.returns-clause-asked
returns-clause-asked c = (
  rows_of (found_of c.args.matches.now),
  refl,
  c.in_ok-table_paths.ensures.named,
  first_of-rows (found_of c.args.matches.now) (codes "CERT") ∙ sym c.in_ok-get_str.ensures,
)

pub returns-in_err-table_paths-clause-none : goal.returns-in_err-table_paths-clause-none
returns-in_err-table_paths-clause-none c = λ is.
    no_check (rows_of (found_of c.args.matches.now)) (λ table text named first. c.in_err-table_paths.ensures.none refl table named)

pub returns-in_err-get_str-clause-none : goal.returns-in_err-get_str-clause-none
returns-in_err-get_str-clause-none c = λ is.
    no_check (rows_of (found_of c.args.matches.now)) (λ table text named first.
    let none : None ≡ Some text = c.in_err-get_str.ensures ∙ sym (first_of-rows (found_of c.args.matches.now) (codes "CERT")) ∙ first in
    cc)
