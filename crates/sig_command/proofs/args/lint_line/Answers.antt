use Rattle.std.proofs.Common.{ap, ◌∙◌}
use Rattle.clap.specs.Simple.{app_of_fields}
use Rattle.sig_command.specs.CommandLine.{of_table}
use Rattle.sig_command.proofs.args.lint_line.Goals as goal

pub returns-clause-line : goal.returns-clause-line
returns-clause-line c = record {
  is_app = ap app_of_fields c.after_help-line.ensures ∙ ap app_of_fields c.about.ensures ∙ c.in_ok-with_table_args.ensures.app ∙ ap
      (of_table c.args.has_priorities) c.new.ensures.app;
  has_no_globals = rw (c.after_help-line.ensures, c.about.ensures) (c.in_ok-with_table_args.ensures.local ∙ c.new.ensures.local);
}
