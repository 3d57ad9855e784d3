use Rattle.std.proofs.Common.{◌≡◌, false, ap, ap₂, codes, ◌∙◌}
use Rattle.clap.specs.Simple.{app_of_fields}
use Rattle.clap.specs.Words.{app_of, new_app, rule_of, with_rule}
use Rattle.clap.specs.declared.Command.TheViews.{out-Command as fields_of}
use Rattle.sig_command.specs.CommandLine.{budget_rule, given, named, of_table}
use Rattle.sig_command.proofs.RowLemmas.{or_false}
use Rattle.sig_command.proofs.args.conflicts_line.Goals as goal

pub returns-clause-line : goal.returns-clause-line
returns-clause-line c =
    let table : app_of c.after_help.result ≡ of_table c.args.has_priorities (new_app (codes "conflicts")) =
    ap app_of_fields c.after_help.ensures ∙ ap app_of_fields c.about.ensures ∙ c.in_ok-with_table_args.ensures.app ∙ ap (of_table c.args.has_priorities)
    c.new.ensures.app in
    let table_local : (fields_of c.after_help.result).has_globals ≡ false =
    rw (c.after_help.ensures, c.about.ensures) (c.in_ok-with_table_args.ensures.local ∙ c.new.ensures.local) in
    let budget : rule_of c.help.result ≡ budget_rule = rw c.help.ensures c.budget.ensures.rule in
    let budget_local : c.help.result.global ≡ false = rw c.help.ensures c.budget.ensures.local in
    let only : rule_of c.help-2.result ≡ named (codes "only") (codes "PUID") = rw c.help-2.ensures c.option.ensures.rule in
    let only_local : c.help-2.result.global ≡ false = rw c.help-2.ensures c.option.ensures.local in
    let class : rule_of c.help-3.result ≡ given (codes "class") = rw c.help-3.ensures c.flag.ensures.rule in
    let class_local : c.help-3.result.global ≡ false = rw c.help-3.ensures c.flag.ensures.local in
    let summary : rule_of c.help-4.result ≡ given (codes "summary") = rw c.help-4.ensures c.flag-2.ensures.rule in
    let summary_local : c.help-4.result.global ≡ false = rw c.help-4.ensures c.flag-2.ensures.local in
    let hex : rule_of c.help-5.result ≡ given (codes "hex") = rw c.help-5.ensures c.flag-3.ensures.rule in
    let hex_local : c.help-5.result.global ≡ false = rw c.help-5.ensures c.flag-3.ensures.local in
    let files : rule_of c.help-6.result ≡ named (codes "files") (codes "DIR") = rw c.help-6.ensures c.option-2.ensures.rule in
    let files_local : c.help-6.result.global ≡ false = rw c.help-6.ensures c.option-2.ensures.local in
    let priorities : rule_of c.help-7.result ≡ named (codes "priorities") (codes "FILE") = rw c.help-7.ensures c.option-3.ensures.rule in
    let priorities_local : c.help-7.result.global ≡ false = rw c.help-7.ensures c.option-3.ensures.local in
    let shown : rule_of c.help-8.result ≡ given (codes "progress") = rw c.help-8.ensures c.flag-4.ensures.rule in
    let shown_local : c.help-8.result.global ≡ false = rw c.help-8.ensures c.flag-4.ensures.local in
    record {
      is_app =
          c.in_ok-line.ensures.shape shown_local ∙ ap₂ with_rule (
          c.in_ok-arg-7.ensures.shape priorities_local ∙ ap₂ with_rule (
          c.in_ok-arg-6.ensures.shape files_local ∙ ap₂ with_rule (
          c.in_ok-arg-5.ensures.shape hex_local ∙ ap₂ with_rule (
          c.in_ok-arg-4.ensures.shape summary_local ∙ ap₂ with_rule (
          c.in_ok-arg-3.ensures.shape class_local ∙ ap₂ with_rule (
          c.in_ok-arg-2.ensures.shape only_local ∙ ap₂ with_rule (
          c.in_ok-arg.ensures.shape budget_local ∙ ap₂ with_rule table budget
          ) only
          ) class
          ) summary
          ) hex
          ) files
          ) priorities
          ) shown;
      has_no_globals = c.in_ok-line.ensures.globals ∙ or_false _ _ shown_local ∙ c.in_ok-arg-7.ensures.globals ∙ or_false _ _ priorities_local
          ∙ c.in_ok-arg-6.ensures.globals ∙ or_false _ _ files_local
          ∙ c.in_ok-arg-5.ensures.globals ∙ or_false _ _ hex_local ∙ c.in_ok-arg-4.ensures.globals ∙ or_false _ _ summary_local ∙ c.in_ok-arg-3.ensures.globals
          ∙ or_false _ _ class_local
          ∙ c.in_ok-arg-2.ensures.globals ∙ or_false _ _ only_local ∙ c.in_ok-arg.ensures.globals ∙ or_false _ _ budget_local ∙ table_local;
    }
