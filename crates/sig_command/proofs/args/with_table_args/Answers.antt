use Rattle.std.proofs.Common.{◌≡◌, false, ap, ap₂, codes, ◌∙◌}
use Rattle.clap.specs.Words.{app_of, rule_of, with_rule}
use Rattle.sig_command.specs.CommandLine.{given, wanted}
use Rattle.sig_command.proofs.RowLemmas.{or_false}
use Rattle.sig_command.proofs.args.with_table_args.Goals as goal

pub returns-then-not-has_priorities-clause-local : goal.returns-then-not-has_priorities-clause-local
returns-then-not-has_priorities-clause-local c =
    let first : c.help.result.global ≡ false = rw c.help.ensures c.required.ensures.local in
    let second : c.help-2.result.global ≡ false = rw c.help-2.ensures c.flag.ensures.local in
    c.in_ok-command.ensures.globals ∙ or_false _ _ second ∙ c.in_ok-arg.ensures.globals ∙ or_false _ _ first

pub returns-then-not-has_priorities-clause-app : goal.returns-then-not-has_priorities-clause-app
returns-then-not-has_priorities-clause-app c =
    let first : rule_of c.help.result ≡ wanted (codes "SIGS") = rw c.help.ensures c.required.ensures.rule in
    let first_local : c.help.result.global ≡ false = rw c.help.ensures c.required.ensures.local in
    let second : rule_of c.help-2.result ≡ given (codes "no-priorities") = rw c.help-2.ensures c.flag.ensures.rule in
    let second_local : c.help-2.result.global ≡ false = rw c.help-2.ensures c.flag.ensures.local in
    rw c.if-not-has_priorities.true (c.in_ok-command.ensures.shape second_local ∙ ap₂ with_rule
    (c.in_ok-arg.ensures.shape first_local ∙ ap (with_rule (app_of c.args.command)) first) second)

pub returns-clause-local : goal.returns-clause-local
returns-clause-local c =
    let first : c.help.result.global ≡ false = rw c.help.ensures c.required.ensures.local in
    let second : c.help-2.result.global ≡ false = rw c.help-2.ensures c.flag.ensures.local in
    let third : c.help-3.result.global ≡ false = rw c.help-3.ensures c.required-2.ensures.local in
    c.in_ok-arg-2.ensures.globals ∙ or_false _ _ third ∙ c.in_ok-command.ensures.globals ∙ or_false _ _ second ∙ c.in_ok-arg.ensures.globals ∙ or_false _ _
    first

pub returns-clause-app : goal.returns-clause-app
returns-clause-app c =
    let first : rule_of c.help.result ≡ wanted (codes "SIGS") = rw c.help.ensures c.required.ensures.rule in
    let first_local : c.help.result.global ≡ false = rw c.help.ensures c.required.ensures.local in
    let second : rule_of c.help-2.result ≡ given (codes "no-priorities") = rw c.help-2.ensures c.flag.ensures.rule in
    let second_local : c.help-2.result.global ≡ false = rw c.help-2.ensures c.flag.ensures.local in
    let third : rule_of c.help-3.result ≡ wanted (codes "PRIOS") = rw c.help-3.ensures c.required-2.ensures.rule in
    let third_local : c.help-3.result.global ≡ false = rw c.help-3.ensures c.required-2.ensures.local in
    rw c.if-not-has_priorities.false (c.in_ok-arg-2.ensures.shape third_local ∙ ap₂ with_rule (
    c.in_ok-command.ensures.shape second_local ∙ ap₂ with_rule (
    c.in_ok-arg.ensures.shape first_local ∙ ap (with_rule (app_of c.args.command)) first
    ) second
    ) third)
