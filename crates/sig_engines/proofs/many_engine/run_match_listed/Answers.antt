use Rattle.sig_engines.proofs.ManyLemmas.{if_all, if_cut, if_err, if_stopped}
use Rattle.sig_engines.proofs.many_engine.run_match_listed.Goals as goal

pub returns-clause-answers : goal.returns-clause-answers
returns-clause-answers g c =
    if_all c.args.run.now.ask _ _ _ _ _ _ _ _ _ _ _ c.match_list-matched.result c.finish.result c.show_done.ensures.reports c.match_list-matched.ensures.answers
    c.match_list-matched.ensures.stays_failed c.finish.ensures.sound c.finish.ensures.whole

pub returns-clause-stopped : goal.returns-clause-stopped
returns-clause-stopped g c =
    if_stopped c.args.run.now.ask _ _ _ _ _ _ _ _ _ _ _ c.match_list-matched.result c.finish.result c.show_done.ensures.reports
    (if_err c.match_list-matched.result _ _ (λ e ends. ends.whole) c.match_list-matched.ensures.ended) c.match_list-matched.ensures.stays_failed
    c.finish.ensures.sound c.finish.ensures.fault

pub returns-clause-cut : goal.returns-clause-cut
returns-clause-cut g c =
    if_cut c.args.run.now.ask _ _ _ _ _ _ _ _ _ _ _ c.match_list-matched.result c.finish.result c.show_done.ensures.reports
    (if_err c.match_list-matched.result _ _ (λ e ends. ends.cut) c.match_list-matched.ensures.ended) c.match_list-matched.ensures.stays_failed
    c.finish.ensures.sound c.finish.ensures.fault
