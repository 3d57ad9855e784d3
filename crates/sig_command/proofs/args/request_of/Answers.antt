use Rattle.std.proofs.Common.{codes, refl, subst}
use Rattle.std.specs.Prelude.{List, Option}
use Rattle.clap.specs.Words.{Row, Text}
use Rattle.sig_command.specs.CommandLine.{Asks}
use Rattle.sig_command.proofs.RequestLemmas.{named_rows}
use Rattle.sig_command.proofs.args.request_of.Goals as goal

pub returns-in-Some-subcommand_matches-3-clause-none : goal.returns-in-Some-subcommand_matches-3-clause-none
returns-in-Some-subcommand_matches-3-clause-none c = λ is request asks.
    let found = c.in-Some-subcommand_matches-3.ensures in
    c.conflicts_request.ensures.none is request (subst (λ (o : Option (Text × List Row)). Asks o request)
    (named_rows _ _ _ (codes "conflicts") _ (found.found.0 refl) found.rows) asks)
