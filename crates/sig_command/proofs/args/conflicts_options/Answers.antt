use Rattle.std.proofs.Common.{◌∙◌, codes, sym}
use Rattle.std.specs.Str.Parse.{ParsesUnsigned, ExplainsUnsignedError, HasUnsignedDigitsIfOk}
use Rattle.clap.specs.Matches.{found_of}
use Rattle.clap.specs.Words.{rows_of}
use Rattle.sig_command.proofs.BudgetLemmas.{budget_is_read, no_budget}
use Rattle.sig_command.proofs.RowLemmas.{first_of-rows, flag_is_read, one_of-rows}
use Rattle.sig_command.proofs.args.conflicts_options.Goals as goal

pub returns-in_err-get_one-clause-none : goal.returns-in_err-get_one-clause-none
returns-in_err-get_one-clause-none c = λ is options named.
    no_budget _ (λ bs r. ParsesUnsigned 32 10 bs r × ExplainsUnsignedError 10 bs r × HasUnsignedDigitsIfOk bs r) (rows_of (found_of c.args.matches.now)) _ _
    (one_of-rows (found_of c.args.matches.now) (codes "N")) c.get_one.ensures.value (λ t x g. g.0) c.in_err-get_one.was options.budget named.budget

pub returns-clause-named : goal.returns-clause-named
returns-clause-named c = record {
  budget = budget_is_read _ (λ bs r. ParsesUnsigned 32 10 bs r × ExplainsUnsignedError 10 bs r × HasUnsignedDigitsIfOk bs r)
      (rows_of (found_of c.args.matches.now)) _ _ _
      (one_of-rows (found_of c.args.matches.now) (codes "N")) c.get_one.ensures.none c.get_one.ensures.value (λ t x g. g.0) c.in_ok-get_one.was;
  only = first_of-rows (found_of c.args.matches.now) (codes "PUID") ∙ sym c.get_str.ensures;
  class = flag_is_read (found_of c.args.matches.now) (codes "class") _ c.get_flag.ensures.value c.get_flag.ensures.other c.get_flag.ensures.none;
  summary = flag_is_read (found_of c.args.matches.now) (codes "summary") _ c.get_flag-2.ensures.value c.get_flag-2.ensures.other c.get_flag-2.ensures.none;
  hex = flag_is_read (found_of c.args.matches.now) (codes "hex") _ c.get_flag-3.ensures.value c.get_flag-3.ensures.other c.get_flag-3.ensures.none;
  files = first_of-rows (found_of c.args.matches.now) (codes "DIR") ∙ sym c.get_str-2.ensures;
  priorities = first_of-rows (found_of c.args.matches.now) (codes "FILE") ∙ sym c.get_str-3.ensures;
}
