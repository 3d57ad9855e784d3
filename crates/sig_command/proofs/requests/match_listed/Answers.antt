use Rattle.sig_command.proofs.SeveralLemmas.{run_answers}
use Rattle.sig_command.proofs.requests.match_listed.Goals as goal

pub returns-clause-answers : goal.returns-clause-answers
returns-clause-answers g c =
    run_answers c.args.run.now.ask _ _ _ _ _ _ _ c.run_match_listed.result c.answer_of.result c.answer_of.ensures
    (rw (c.in-Ok.ensures.unread, c.in-Ok.ensures.end) at c.run_match_listed.ensures.answers)
