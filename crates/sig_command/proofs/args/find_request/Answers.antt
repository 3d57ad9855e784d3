use Rattle.std.proofs.Common.{◌≡◌, ◌∙◌, codes, refl, sym, None, Some}
use Rattle.std.specs.Str.Parse.{ParsesUnsigned, ExplainsUnsignedError, HasUnsignedDigitsIfOk}
use Rattle.clap.specs.Matches.{found_of}
use Rattle.clap.specs.Words.{rows_of}
use Rattle.sig_command.proofs.BudgetLemmas.{budget_is_read, no_budget}
use Rattle.sig_command.proofs.RequestLemmas.{no_find}
use Rattle.sig_command.proofs.RowLemmas.{first_of-rows, flag_is_read, one_of-rows}
use Rattle.sig_command.proofs.args.find_request.Goals as goal

pub returns-clause-asked : goal.returns-clause-asked
returns-clause-asked c = (
  rows_of (found_of c.args.matches.now),
  refl,
  c.in_ok-table_paths.ensures.named,
  budget_is_read _ (λ bs r. ParsesUnsigned 32 10 bs r × ExplainsUnsignedError 10 bs r × HasUnsignedDigitsIfOk bs r) (rows_of (found_of c.args.matches.now)) _ _
      _
      (one_of-rows (found_of c.args.matches.now) (codes "N")) c.get_one.ensures.none c.get_one.ensures.value (λ t x g. g.0) c.in_ok-get_one.was,
  first_of-rows (found_of c.args.matches.now) (codes "OUT") ∙ sym c.in_ok-get_str.ensures,
  flag_is_read (found_of c.args.matches.now) (codes "hex") _ c.get_flag.ensures.value c.get_flag.ensures.other c.get_flag.ensures.none,
  flag_is_read (found_of c.args.matches.now) (codes "progress") _ c.get_flag-2.ensures.value c.get_flag-2.ensures.other c.get_flag-2.ensures.none,
)

pub returns-in_err-get_one-clause-none : goal.returns-in_err-get_one-clause-none
returns-in_err-get_one-clause-none c = λ is.
    no_find (rows_of (found_of c.args.matches.now)) (λ table budget text named number first.
    no_budget _ (λ bs r. ParsesUnsigned 32 10 bs r × ExplainsUnsignedError 10 bs r × HasUnsignedDigitsIfOk bs r) (rows_of (found_of c.args.matches.now)) _ _
    (one_of-rows (found_of c.args.matches.now) (codes "N")) c.get_one.ensures.value (λ t x g. g.0) c.in_err-get_one.was budget number)

pub returns-in_err-get_str-clause-none : goal.returns-in_err-get_str-clause-none
returns-in_err-get_str-clause-none c = λ is.
    no_find (rows_of (found_of c.args.matches.now)) (λ table budget text named number first.
    let none : None ≡ Some text = c.in_err-get_str.ensures ∙ sym (first_of-rows (found_of c.args.matches.now) (codes "OUT")) ∙ first in
    cc)

pub returns-in_err-table_paths-clause-none : goal.returns-in_err-table_paths-clause-none
returns-in_err-table_paths-clause-none c = λ is.
    no_find (rows_of (found_of c.args.matches.now)) (λ table budget text named number first. c.in_err-table_paths.ensures.none refl table named)
