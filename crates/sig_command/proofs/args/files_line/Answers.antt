use Rattle.std.proofs.Common.{◌≡◌, false, ap, ap₂, codes, ◌∙◌}
use Rattle.clap.specs.Simple.{app_of_fields}
use Rattle.clap.specs.Words.{app_of, new_app, rule_of, with_rule}
use Rattle.clap.specs.declared.Command.TheViews.{out-Command as fields_of}
use Rattle.sig_command.specs.CommandLine.{given, of_table, several}
use Rattle.sig_command.proofs.RowLemmas.{or_false}
use Rattle.sig_command.proofs.args.files_line.Goals as goal

pub returns-clause-line : goal.returns-clause-line
returns-clause-line c =
    let table : app_of c.after_help.result ≡ of_table c.args.has_priorities (new_app (codes "match")) =
    ap app_of_fields c.after_help.ensures ∙ ap app_of_fields c.about.ensures ∙ c.in_ok-with_table_args.ensures.app ∙ ap (of_table c.args.has_priorities)
    c.new.ensures.app in
    let table_local : (fields_of c.after_help.result).has_globals ≡ false =
    rw (c.after_help.ensures, c.about.ensures) (c.in_ok-with_table_args.ensures.local ∙ c.new.ensures.local) in
    let file : rule_of c.help.result ≡ several (codes "FILE") = rw c.help.ensures c.several.ensures.rule in
    let file_local : c.help.result.global ≡ false = rw c.help.ensures c.several.ensures.local in
    let all : rule_of c.help-2.result ≡ given (codes "all") = rw c.help-2.ensures c.flag.ensures.rule in
    let all_local : c.help-2.result.global ≡ false = rw c.help-2.ensures c.flag.ensures.local in
    let with_names : rule_of c.help-3.result ≡ given (codes "with-names") = rw c.help-3.ensures c.flag-2.ensures.rule in
    let with_names_local : c.help-3.result.global ≡ false = rw c.help-3.ensures c.flag-2.ensures.local in
    let csv : rule_of c.help-4.result ≡ given (codes "csv") = rw c.help-4.ensures c.flag-3.ensures.rule in
    let csv_local : c.help-4.result.global ≡ false = rw c.help-4.ensures c.flag-3.ensures.local in
    record {
      is_app =
          c.in_ok-line.ensures.shape csv_local ∙ ap₂ with_rule (
          c.in_ok-arg-3.ensures.shape with_names_local ∙ ap₂ with_rule (
          c.in_ok-arg-2.ensures.shape all_local ∙ ap₂ with_rule (
          c.in_ok-arg.ensures.shape file_local ∙ ap₂ with_rule table file
          ) all
          ) with_names
          ) csv;
      has_no_globals =
          c.in_ok-line.ensures.globals ∙ or_false _ _ csv_local ∙ c.in_ok-arg-3.ensures.globals ∙ or_false _ _ with_names_local
          ∙ c.in_ok-arg-2.ensures.globals ∙ or_false _ _ all_local ∙ c.in_ok-arg.ensures.globals ∙ or_false _ _ file_local ∙ table_local;
    }
