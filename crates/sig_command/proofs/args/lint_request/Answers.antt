use Rattle.std.proofs.Common.{refl}
use Rattle.clap.specs.Matches.{found_of}
use Rattle.clap.specs.Words.{rows_of}
use Rattle.sig_command.proofs.RequestLemmas.{no_lint}
use Rattle.sig_command.proofs.args.lint_request.Goals as goal

pub returns-clause-asked : goal.returns-clause-asked
returns-clause-asked c = (rows_of (found_of c.args.matches.now), refl, c.in_ok-table_paths.ensures.named)

pub returns-in_err-table_paths-clause-none : goal.returns-in_err-table_paths-clause-none
returns-in_err-table_paths-clause-none c = λ is.
    no_lint (rows_of (found_of c.args.matches.now)) (λ table named. c.in_err-table_paths.ensures.none refl table named)
