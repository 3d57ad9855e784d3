use Rattle.std.proofs.Common.{◌≡◌, true, ap, ap₂, codes, ◌∙◌}
use Rattle.clap.specs.Simple.{app_of_fields, on_top}
use Rattle.clap.specs.Words.{App, Shape, app_of, new_app, with_subcommand}
use Rattle.sig_command.specs.CommandLine.{program}
use Rattle.sig_command.proofs.args.command_line.Goals as goal

abbrev top : App
top = on_top (λ s. record s { has_version = true; no_binary_name = true; subcommand_required = true }) (new_app (codes "pronom_sig"))

abbrev top_of : App → Shape
top_of a = a.top

pub returns-clause-app : goal.returns-clause-app
returns-clause-app c =
    let named_is : app_of c.about.result ≡ new_app (codes "pronom_sig") = ap app_of_fields c.about.ensures ∙ c.new.ensures.app in
    let version_is : app_of c.version.result ≡ on_top (λ s. record s { has_version = true }) (new_app (codes "pronom_sig")) =
    ap app_of_fields c.version.ensures ∙ ap (on_top (λ (s : Shape). record s { has_version = true })) named_is in
    let bin_is : app_of c.in_ok-bin_name.field-0 ≡ on_top (λ s. record s { has_version = true }) (new_app (codes "pronom_sig")) =
    ap app_of_fields c.in_ok-bin_name.ensures.0 ∙ version_is in
    let bare_is : app_of c.no_binary_name.result ≡ on_top (λ s. record s { has_version = true; no_binary_name = true }) (new_app (codes "pronom_sig")) =
    ap app_of_fields c.no_binary_name.ensures ∙ ap (on_top (λ (s : Shape). record s { no_binary_name = true })) bin_is in
    let top_is : app_of c.subcommand_required.result ≡ top = ap app_of_fields c.subcommand_required.ensures ∙ ap
    (on_top (λ (s : Shape). record s { subcommand_required = true })) bare_is in
    let whole : app_of c.in_ok-command.command ≡ program c.names_priorities-has_priorities.result =
    c.in_ok-command.ensures.shape c.in_ok-witness_line.ensures.line.has_no_globals ∙ ap₂ with_subcommand (
    c.in_ok-subcommand-7.ensures.shape c.in_ok-check_line.ensures.line.has_no_globals ∙ ap₂ with_subcommand (
    c.in_ok-subcommand-6.ensures.shape c.in_ok-dead_line.ensures.line.has_no_globals ∙ ap₂ with_subcommand (
    c.in_ok-subcommand-5.ensures.shape c.in_ok-conflicts_line.ensures.line.has_no_globals ∙ ap₂ with_subcommand (
    c.in_ok-subcommand-4.ensures.shape c.in_ok-find_line.ensures.line.has_no_globals ∙ ap₂ with_subcommand (
    c.in_ok-subcommand-3.ensures.shape c.in_ok-match_line.ensures.line.has_no_globals ∙ ap₂ with_subcommand (
    c.in_ok-subcommand-2.ensures.shape c.in_ok-lint_line.ensures.line.has_no_globals ∙ ap₂ with_subcommand (
    c.in_ok-subcommand.ensures.shape c.in_ok-show_line.ensures.line.has_no_globals ∙ ap₂ with_subcommand top_is
    (ap top_of c.in_ok-show_line.ensures.line.is_app)
    ) (ap top_of c.in_ok-lint_line.ensures.line.is_app)
    ) (ap top_of c.in_ok-match_line.ensures.line.is_app)
    ) (ap top_of c.in_ok-find_line.ensures.line.is_app)
    ) (ap top_of c.in_ok-conflicts_line.ensures.line.is_app)
    ) (ap top_of c.in_ok-dead_line.ensures.line.is_app)
    ) (ap top_of c.in_ok-check_line.ensures.line.is_app)
    ) (ap top_of c.in_ok-witness_line.ensures.line.is_app) in
    whole ∙ ap program c.names_priorities-has_priorities.ensures
