use Rattle.sig_engines.proofs.ManyLemmas.{if_all}
use Rattle.sig_engines.proofs.many_engine.run_match_many.Goals as goal

pub returns-clause-answers : goal.returns-clause-answers
returns-clause-answers g c =
    if_all c.args.run.now.ask _ _ _ _ _ _ _ _ _ _ _ c.match_words-matched.result c.finish.result c.show_done.ensures.reports
    c.match_words-matched.ensures.answers c.match_words-matched.ensures.stays_failed c.finish.ensures.sound c.finish.ensures.whole
