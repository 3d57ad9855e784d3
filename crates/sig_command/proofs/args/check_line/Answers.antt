use Rattle.std.proofs.Common.{◌≡◌, false, ap, ap₂, codes, ◌∙◌}
use Rattle.clap.specs.Simple.{app_of_fields}
use Rattle.clap.specs.Words.{app_of, new_app, rule_of, with_rule}
use Rattle.clap.specs.declared.Command.TheViews.{out-Command as fields_of}
use Rattle.sig_command.specs.CommandLine.{of_table, wanted}
use Rattle.sig_command.proofs.RowLemmas.{or_false}
use Rattle.sig_command.proofs.args.check_line.Goals as goal

pub returns-clause-line : goal.returns-clause-line
returns-clause-line c =
    let table : app_of c.after_help.result ≡ of_table c.args.has_priorities (new_app (codes "check")) =
    ap app_of_fields c.after_help.ensures ∙ ap app_of_fields c.about.ensures ∙ c.in_ok-with_table_args.ensures.app ∙ ap (of_table c.args.has_priorities)
    c.new.ensures.app in
    let table_local : (fields_of c.after_help.result).has_globals ≡ false =
    rw (c.after_help.ensures, c.about.ensures) (c.in_ok-with_table_args.ensures.local ∙ c.new.ensures.local) in
    let certificate : rule_of c.help.result ≡ wanted (codes "CERT") = rw c.help.ensures c.required.ensures.rule in
    let certificate_local : c.help.result.global ≡ false = rw c.help.ensures c.required.ensures.local in
    record {
      is_app = c.in_ok-line.ensures.shape certificate_local ∙ ap₂ with_rule table certificate;
      has_no_globals = c.in_ok-line.ensures.globals ∙ or_false _ _ certificate_local ∙ table_local;
    }
