use Rattle.std.proofs.Common.{codes, refl}
use Rattle.clap.specs.Matches.{found_of}
use Rattle.clap.specs.Words.{rows_of}
use Rattle.sig_command.proofs.RequestLemmas.{no_conflicts}
use Rattle.sig_command.proofs.RowLemmas.{flag_is_read}
use Rattle.sig_command.proofs.args.conflicts_request.Goals as goal

pub returns-clause-asked : goal.returns-clause-asked
returns-clause-asked c = (
  rows_of (found_of c.args.matches.now),
  refl,
  c.in_ok-table_paths.ensures.named,
  c.in_ok-conflicts_options.ensures.named,
  flag_is_read (found_of c.args.matches.now) (codes "progress") _ c.get_flag.ensures.value c.get_flag.ensures.other c.get_flag.ensures.none,
)

pub returns-in_err-conflicts_options-clause-none : goal.returns-in_err-conflicts_options-clause-none
returns-in_err-conflicts_options-clause-none c = λ is.
    no_conflicts (rows_of (found_of c.args.matches.now)) (λ table options named all. c.in_err-conflicts_options.ensures.none refl options all)

pub returns-in_err-table_paths-clause-none : goal.returns-in_err-table_paths-clause-none
returns-in_err-table_paths-clause-none c = λ is.
    no_conflicts (rows_of (found_of c.args.matches.now)) (λ table options named all. c.in_err-table_paths.ensures.none refl table named)
