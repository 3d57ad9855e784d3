use Rattle.sig_command.proofs.LineLemmas.{with_many}
use Rattle.sig_command.proofs.args.match_line.Goals as goal

pub returns-clause-line : goal.returns-clause-line
returns-clause-line c = with_many c.with_many_args.result _ _ c.in_ok-line.ensures.line c.with_many_args.ensures.app c.with_many_args.ensures.local
