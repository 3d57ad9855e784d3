use Rattle.std.proofs.Common.{◌≡◌, ◌⊎◌, ◌<◌, ◌∙◌, ◌∷◌, arith, codes, inl, length, refl, rules, subst, sym, true, None, Some}
use Rattle.std.specs.Prelude.{is_some}
use Rattle.clap.specs.Matches.{found_of}
use Rattle.clap.specs.Words.{rows_of}
use Rattle.sig_command.specs.CommandLine.{HasFlag, is_named}
use Rattle.sig_command.proofs.RowLemmas.{all_of-rows, flag_is_read, many_named, neither_first, neither_second, none_given, none_named, one_named}
use Rattle.sig_command.proofs.args.files_request.Goals as goal

pub returns-in_err-files-clause-none : goal.returns-in_err-files-clause-none
returns-in_err-files-clause-none c = λ is text texts are.
    let none : None ≡ Some (text ∷ texts) = c.in_err-files.ensures ∙ sym (all_of-rows (found_of c.args.matches.now) (codes "FILE")) ∙ are in
    cc

pub returns-in-empty-clause-none : goal.returns-in-empty-clause-none
returns-in-empty-clause-none c = λ is text texts are. none_named (found_of c.args.matches.now) _ c.in-empty.len_below c.in_ok-files.ensures text texts are

pub returns-in-len1-clause-asked : goal.returns-in-len1-clause-asked
returns-in-len1-clause-asked c =
    let options = c.match_options-options.result in
    let plain = sym c.is_named.ensures ∙ c.if-not-is_named.true in
    let formless = neither_second options.csv _ plain in
    let flat = neither_second (is_some options.names) _ formless in
    let silent = neither_second options.recursive _ flat in (
      rows_of (found_of c.args.matches.now),
      refl,
      c.requires.named,
      one_named (found_of c.args.matches.now) c.in_ok-files.files.now _ c.in-len1.len_at_least c.in-len1.len_below c.in_ok-files.ensures,
      c.requires.unlisted,
      c.match_options-options.ensures.all,
      subst (λ b. HasFlag (codes "with-names") b (rows_of (found_of c.args.matches.now))) c.if-not-with_names.true
          (flag_is_read (found_of c.args.matches.now) (codes "with-names") _ c.get_flag-with_names.ensures.value c.get_flag-with_names.ensures.other
          c.get_flag-with_names.ensures.none),
      subst (λ b. HasFlag (codes "csv") b (rows_of (found_of c.args.matches.now))) (neither_first options.csv _ plain) c.match_options-options.ensures.csv,
      c.match_options-options.ensures.names ∙ none_given options.names (neither_first (is_some options.names) _ formless),
      subst (λ b. HasFlag (codes "recursive") b (rows_of (found_of c.args.matches.now))) (neither_first options.recursive _ flat)
          c.match_options-options.ensures.recursive,
      subst (λ b. HasFlag (codes "progress") b (rows_of (found_of c.args.matches.now))) (neither_first options.progress _ silent)
          c.match_options-options.ensures.progress,
      subst (λ b. HasFlag (codes "summary") b (rows_of (found_of c.args.matches.now))) (neither_second options.progress options.summary silent)
          c.match_options-options.ensures.summary,
    )

pub returns-in_default-clause-asked : goal.returns-in_default-clause-asked
returns-in_default-clause-asked c =
    let options = c.match_options-options.result in
    let some : 0 < length c.in_ok-files.files.now = grind arith in
    let several : (1 < length c.in_ok-files.files.now) ⊎ ((c.get_flag-with_names.result ≡ true) ⊎ (is_named options ≡ true)) = search rules in (
      rows_of (found_of c.args.matches.now),
      refl,
      c.requires.named,
      inl (
        c.in_ok-files.files,
        refl,
        many_named (found_of c.args.matches.now) c.in_ok-files.files.now options _ some several
            (flag_is_read (found_of c.args.matches.now) (codes "with-names") _ c.get_flag-with_names.ensures.value c.get_flag-with_names.ensures.other
            c.get_flag-with_names.ensures.none)
            c.in_ok-files.ensures c.requires.unlisted,
      ),
      c.match_options-options.ensures,
    )
