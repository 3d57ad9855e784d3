use Rattle.std.proofs.Common.{◌≡◌, false, ap, ap₂, codes, ◌∙◌}
use Rattle.clap.specs.Words.{app_of, rule_of, with_rule}
use Rattle.sig_command.specs.CommandLine.{given, named, null_rule}
use Rattle.sig_command.proofs.RowLemmas.{or_false}
use Rattle.sig_command.proofs.args.with_many_args.Goals as goal

pub returns-clause-app : goal.returns-clause-app
returns-clause-app c =
    let names : rule_of c.help.result ≡ named (codes "names") (codes "FORMATS") = rw c.help.ensures c.option.ensures.rule in
    let names_local : c.help.result.global ≡ false = rw c.help.ensures c.option.ensures.local in
    let recursive : rule_of c.help-2.result ≡ given (codes "recursive") = rw c.help-2.ensures c.flag.ensures.rule in
    let recursive_local : c.help-2.result.global ≡ false = rw c.help-2.ensures c.flag.ensures.local in
    let list : rule_of c.help-3.result ≡ named (codes "files-from") (codes "NAMES") = rw c.help-3.ensures c.option-2.ensures.rule in
    let list_local : c.help-3.result.global ≡ false = rw c.help-3.ensures c.option-2.ensures.local in
    let nul : rule_of c.help-4.result ≡ null_rule = rw c.help-4.ensures c.null.ensures.rule in
    let nul_local : c.help-4.result.global ≡ false = rw c.help-4.ensures c.null.ensures.local in
    let progress : rule_of c.help-5.result ≡ given (codes "progress") = rw c.help-5.ensures c.flag-2.ensures.rule in
    let progress_local : c.help-5.result.global ≡ false = rw c.help-5.ensures c.flag-2.ensures.local in
    let summary : rule_of c.help-6.result ≡ given (codes "summary") = rw c.help-6.ensures c.flag-3.ensures.rule in
    let summary_local : c.help-6.result.global ≡ false = rw c.help-6.ensures c.flag-3.ensures.local in
    c.in_ok-command.ensures.shape summary_local ∙ ap₂ with_rule (
    c.in_ok-arg-5.ensures.shape progress_local ∙ ap₂ with_rule (
    c.in_ok-arg-4.ensures.shape nul_local ∙ ap₂ with_rule (
    c.in_ok-arg-3.ensures.shape list_local ∙ ap₂ with_rule (
    c.in_ok-arg-2.ensures.shape recursive_local ∙ ap₂ with_rule (
    c.in_ok-arg.ensures.shape names_local ∙ ap (with_rule (app_of c.args.command)) names
    ) recursive
    ) list
    ) nul
    ) progress
    ) summary

pub returns-clause-local : goal.returns-clause-local
returns-clause-local c =
    let names_local : c.help.result.global ≡ false = rw c.help.ensures c.option.ensures.local in
    let recursive_local : c.help-2.result.global ≡ false = rw c.help-2.ensures c.flag.ensures.local in
    let list_local : c.help-3.result.global ≡ false = rw c.help-3.ensures c.option-2.ensures.local in
    let nul_local : c.help-4.result.global ≡ false = rw c.help-4.ensures c.null.ensures.local in
    let progress_local : c.help-5.result.global ≡ false = rw c.help-5.ensures c.flag-2.ensures.local in
    let summary_local : c.help-6.result.global ≡ false = rw c.help-6.ensures c.flag-3.ensures.local in
    c.in_ok-command.ensures.globals ∙ or_false _ _ summary_local ∙ c.in_ok-arg-5.ensures.globals ∙ or_false _ _ progress_local ∙ c.in_ok-arg-4.ensures.globals
    ∙ or_false _ _ nul_local
    ∙ c.in_ok-arg-3.ensures.globals ∙ or_false _ _ list_local ∙ c.in_ok-arg-2.ensures.globals ∙ or_false _ _ recursive_local ∙ c.in_ok-arg.ensures.globals
    ∙ or_false _ _ names_local
