use Rattle.std.proofs.Common.{◌≡◌, false, ap, ap₂, codes, ◌∙◌}
use Rattle.clap.specs.Simple.{app_of_fields}
use Rattle.clap.specs.Words.{app_of, new_app, rule_of, with_rule}
use Rattle.clap.specs.declared.Command.TheViews.{out-Command as fields_of}
use Rattle.sig_command.specs.CommandLine.{budget_rule, given, of_table, out_rule}
use Rattle.sig_command.proofs.RowLemmas.{or_false}
use Rattle.sig_command.proofs.args.find_line.Goals as goal

pub returns-clause-line : goal.returns-clause-line
returns-clause-line c =
    let table : app_of c.after_help.result ≡ of_table c.args.has_priorities (new_app (codes "find")) =
    ap app_of_fields c.after_help.ensures ∙ ap app_of_fields c.about.ensures ∙ c.in_ok-with_table_args.ensures.app ∙ ap (of_table c.args.has_priorities)
    c.new.ensures.app in
    let table_local : (fields_of c.after_help.result).has_globals ≡ false =
    rw (c.after_help.ensures, c.about.ensures) (c.in_ok-with_table_args.ensures.local ∙ c.new.ensures.local) in
    let budget : rule_of c.help.result ≡ budget_rule = rw c.help.ensures c.budget.ensures.rule in
    let budget_local : c.help.result.global ≡ false = rw c.help.ensures c.budget.ensures.local in
    let out : rule_of c.help-2.result ≡ out_rule = rw c.help-2.ensures c.out.ensures.rule in
    let out_local : c.help-2.result.global ≡ false = rw c.help-2.ensures c.out.ensures.local in
    let flag : rule_of c.help-3.result ≡ given (codes "hex") = rw c.help-3.ensures c.flag.ensures.rule in
    let flag_local : c.help-3.result.global ≡ false = rw c.help-3.ensures c.flag.ensures.local in
    let shown : rule_of c.help-4.result ≡ given (codes "progress") = rw c.help-4.ensures c.flag-2.ensures.rule in
    let shown_local : c.help-4.result.global ≡ false = rw c.help-4.ensures c.flag-2.ensures.local in
    let first : app_of c.in_ok-arg.field-0 ≡ with_rule (of_table c.args.has_priorities (new_app (codes "find"))) budget_rule =
    c.in_ok-arg.ensures.shape budget_local ∙ ap₂ with_rule table budget in
    let second : app_of c.in_ok-arg-2.field-0 ≡ with_rule (with_rule (of_table c.args.has_priorities (new_app (codes "find"))) budget_rule) out_rule =
    c.in_ok-arg-2.ensures.shape out_local ∙ ap₂ with_rule first out in
    let third : app_of c.in_ok-arg-3.field-0 ≡ with_rule (with_rule (with_rule (of_table c.args.has_priorities (new_app (codes "find"))) budget_rule) out_rule)
    (given (codes "hex")) = c.in_ok-arg-3.ensures.shape flag_local ∙ ap₂ with_rule second flag in
    record {
      is_app = c.in_ok-line.ensures.shape shown_local ∙ ap₂ with_rule third shown;
      has_no_globals = c.in_ok-line.ensures.globals ∙ or_false _ _ shown_local ∙ c.in_ok-arg-3.ensures.globals ∙ or_false _ _ flag_local
          ∙ c.in_ok-arg-2.ensures.globals ∙ or_false _ _ out_local ∙ c.in_ok-arg.ensures.globals ∙ or_false _ _ budget_local ∙ table_local;
    }
