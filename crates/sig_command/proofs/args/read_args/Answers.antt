use Rattle.std.proofs.Common.{◌≡◌, Bool, false, true, ap, inl, refl, subst, sym, ◌∙◌}
use Rattle.clap.specs.Words.{App, HasKind, Row, Text, fault_of, is_simple, is_simple_and_free, subcommand_of, takes}
use Rattle.std.proofs.lemmas.Result.{err_from_is_err_and}
use Rattle.clap.proofs.OnLiterals.{clap_on_literals}
use Rattle.std.specs.Prelude.{List, Option, map, string_bytes}
use Rattle.sig_command.specs.CommandLine.{Asks, fault_of_words, names_priorities, program, texts_of}
use Rattle.sig_command.specs.declared.args.Request.{Request}
use Rattle.sig_command.proofs.RequestLemmas.{help_among, no_help, none_made, some_asked}
use Rattle.sig_command.proofs.args.read_args.Goals as goal

is_program_simple : (has_priorities : Bool) → is_simple (program has_priorities) ≡ true
unfolding clap_on_literals
is_program_simple true = refl
is_program_simple false = refl

is_program_free : (has_priorities : Bool) → is_simple_and_free (program has_priorities) ≡ true
unfolding clap_on_literals
is_program_free true = refl
is_program_free false = refl

pub returns-in_err-matches-clause-taken : goal.returns-in_err-matches-clause-taken
returns-in_err-matches-clause-taken c =
    let r = err_from_is_err_and c.from_residual-in_err-matches.result c.from_residual-in_err-matches.ensures.1 in
    rw (r.1, r.2) (λ taken. c.in_err-matches.ensures.passes (ap (λ (a : App). takes a (map string_bytes c.args.words.now)) c.in_ok-command.ensures.app
    ∙ taken.0))

pub returns-in_err-matches-clause-help : goal.returns-in_err-matches-clause-help
returns-in_err-matches-clause-help c =
    let r = err_from_is_err_and c.from_residual-in_err-matches.result c.from_residual-in_err-matches.ensures.1 in
    let app = c.in_ok-command.ensures.app in
    let kinds = subst (λ (a : App). HasKind (fault_of a (map string_bytes c.args.words.now)) c.in_err-matches.field-0.0) app
    (c.in_err-matches.ensures.kinds (ap is_simple_and_free app ∙ is_program_free (names_priorities (texts_of c.args.words.now)))) in
    rw (r.1, r.2) (help_among (fault_of_words (map string_bytes c.args.words.now)) c.in_err-matches.field-0.0 kinds)

pub returns-in_err-matches-clause-kinds : goal.returns-in_err-matches-clause-kinds
returns-in_err-matches-clause-kinds c =
    let r = err_from_is_err_and c.from_residual-in_err-matches.result c.from_residual-in_err-matches.ensures.1 in
    let app = c.in_ok-command.ensures.app in
    let kinds = subst (λ (a : App). HasKind (fault_of a (map string_bytes c.args.words.now)) c.in_err-matches.field-0.0) app
    (c.in_err-matches.ensures.kinds (ap is_simple_and_free app ∙ is_program_free (names_priorities (texts_of c.args.words.now)))) in
    rw (r.1, r.2) (λ some. kinds)

pub returns-then-is_none-clause-taken : goal.returns-then-is_none-clause-taken
returns-then-is_none-clause-taken c = λ taken.
    let found = (c.in_ok-matches.ensures.ok.2 (ap is_simple c.in_ok-command.ensures.app ∙ is_program_simple (names_priorities (texts_of c.args.words.now)))).1
    in
    let same = found ∙ ap (λ (a : App). subcommand_of a (map string_bytes c.args.words.now)) c.in_ok-command.ensures.app in
    let none = none_made c.request_of.result c.is_none.result c.is_none.ensures c.if-is_none.true in
    absurd (c.request_of.ensures.none none taken.1.0 (subst (λ (o : Option (Text × List Row)). Asks o taken.1.0) (sym same) taken.1.1))

pub returns-clause-found : goal.returns-clause-found
returns-clause-found c =
    let found = (c.in_ok-matches.ensures.ok.2 (ap is_simple c.in_ok-command.ensures.app ∙ is_program_simple (names_priorities (texts_of c.args.words.now)))).1
    in
    found ∙ ap (λ (a : App). subcommand_of a (map string_bytes c.args.words.now)) c.in_ok-command.ensures.app

pub returns-clause-asked : goal.returns-clause-asked
returns-clause-asked c =
    let found = (c.in_ok-matches.ensures.ok.2 (ap is_simple c.in_ok-command.ensures.app ∙ is_program_simple (names_priorities (texts_of c.args.words.now)))).1
    in
    let same = found ∙ ap (λ (a : App). subcommand_of a (map string_bytes c.args.words.now)) c.in_ok-command.ensures.app in
    subst (λ (o : Option (Text × List Row)). (request : Request) × Asks o request) same
    (some_asked _ c.request_of.result c.is_none.result c.request_of.ensures.asked c.is_none.ensures c.if-is_none.false)

pub returns-in_err-error-clause-help : goal.returns-in_err-error-clause-help
returns-in_err-error-clause-help c =
    let r = err_from_is_err_and c.from_residual-in_err-error.result c.from_residual-in_err-error.ensures.1 in
    rw r.1 (λ is. absurd (no_help r.0 r.2 is))

pub returns-clause-sound : goal.returns-clause-sound
returns-clause-sound c =
    let app = c.in_ok-command.ensures.app in
    sym (ap (λ (a : App). fault_of a (map string_bytes c.args.words.now)) app) ∙ c.in_ok-matches.ensures.kinds
    (ap is_simple_and_free app ∙ is_program_free (names_priorities (texts_of c.args.words.now)))

pub returns-then-is_none-clause-kinds : goal.returns-then-is_none-clause-kinds
returns-then-is_none-clause-kinds c = λ some.
    let app = c.in_ok-command.ensures.app in
    let none = sym (ap (λ (a : App). fault_of a (map string_bytes c.args.words.now)) app) ∙ c.in_ok-matches.ensures.kinds
    (ap is_simple_and_free app ∙ is_program_free (names_priorities (texts_of c.args.words.now))) in
    absurd (some none)

pub returns-in_err-error-clause-kinds : goal.returns-in_err-error-clause-kinds
returns-in_err-error-clause-kinds c =
    let r = err_from_is_err_and c.from_residual-in_err-error.result c.from_residual-in_err-error.ensures.1 in
    rw r.1 (λ some. inl r.2)
