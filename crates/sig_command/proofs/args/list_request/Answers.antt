use Rattle.std.proofs.Common.{◌≡◌, ◌∙◌, ap, codes, inr, map, refl, sym, None, Some}
use Rattle.clap.specs.Matches.{found_of}
use Rattle.std.specs.Borrow.{Bor}
use Rattle.clap.specs.Words.{Text, rows_of}
use Rattle.sig_command.proofs.RowLemmas.{all_of-rows, flag_is_read}
use Rattle.sig_command.specs.CommandLine.{list_names}
use Rattle.sig_command.proofs.args.list_request.Goals as goal

pub returns-in-Some-clause-none : goal.returns-in-Some-clause-none
returns-in-Some-clause-none c = λ is none.
    let bad : Some (map (λ (n : Bor Text). n.now) c.in-Some.field-0.now) ≡ None =
    c.in-Some.ensures ∙ sym (all_of-rows (found_of c.args.matches.now) (codes "FILE")) ∙ none in
    cc

pub returns-in-None-clause-asked : goal.returns-in-None-clause-asked
returns-in-None-clause-asked c = (
  rows_of (found_of c.args.matches.now),
  refl,
  c.requires.named,
  inr (record {
    word = c.args.word;
    given = c.requires.listed;
    is_null = c.get_flag.result;
    null = flag_is_read (found_of c.args.matches.now) (codes "null") _ c.get_flag.ensures.value c.get_flag.ensures.other c.get_flag.ensures.none;
    is = c.list_names.ensures ∙ ap (list_names c.args.word) c.name_end.ensures;
    alone = all_of-rows (found_of c.args.matches.now) (codes "FILE") ∙ sym c.in-None.ensures;
  }),
  c.match_options.ensures,
)
