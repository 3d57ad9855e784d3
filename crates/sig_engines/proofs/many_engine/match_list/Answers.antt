use Rattle.std.proofs.Common.{Ok, ap, refl, subst, [], ◌∷◌, ◌++◌, ◌∙◌}
use Rattle.std.proofs.lemmas.Result.{err_from_is_err_and}
use Rattle.sig_engines.proofs.ManyLemmas.{files_as, files_cut, files_first, files_none, files_stopped, files_then, first_failed, head_cut, some_visits}
use Rattle.sig_engines.proofs.ManyLemmas.{visits_more, visits_next, visits_next_more}
use Rattle.sig_engines.proofs.TakenLemmas.{some_listed, takes_all, takes_first_more, takes_first_of, takes_more, takes_none}
use Rattle.sig_engines.specs.Listed.{AreListed, TakesNames, unread_of}
use Rattle.sig_engines.specs.ManyFiles.{AddsFiles, AreListedVisits, CutsFiles, IsPrinted}
use Rattle.sig_engines.specs.Visits.{AreOf, AreVisits}
use Rattle.sig_engines.proofs.many_engine.match_list.Goals as goal

pub names-init : goal.names-init
names-init g c = record {
  end = refl;
  names = ([], takes_none _ _, rw c.new-tally.ensures (files_none _ _ _ _ _ _ _ _ _ refl c.in_ok-write_head.ensures.adds));
  quiet = λ no_progress none. refl;
  sound = c.in_ok-write_head.ensures.sound;
  stays_failed = λ sound. sound;
}

pub names-preserved : goal.names-preserved
names-preserved g c =
    let before = c.names.invariant in
    let told = c.in_ok-tally.ensures in
    let held = g.S.Store.held c.args.run.now.store.now in
    let all = c.args.run.now.ask.recursive in
    let name = c.next.new.name.items in
    let printed = IsPrinted g.S.Reader.Input.failed c.args.run.now.ask (g.K.DroidCore.lists c.args.run.now.core.now) held in
    let next = subst (λ e. TakesNames e (unread_of g.I.Input.to_come c.names.list) (name ∷ []) (unread_of g.I.Input.to_come c.next.new.self)) before.end
    (c.next.ensures.takes (c.in_ok-next.was ∙ ap Ok c.if-branch.true)) in
    let file = subst (λ n. AddsFiles [] printed (AreOf all held n) c.args.run.now.ask.progress c.names.tally (g.W.Output.written c.names.out)
    (g.W.Output.written c.match_listed.new.out) (g.E.Output.failed c.match_listed.new.err) (g.E.Output.written c.names.err)
    (g.E.Output.written c.match_listed.new.err) c.in_ok-tally.tally)
    c.deref.ensures.value told.answers in
    record {
      end = c.next.ensures.end ∙ before.end;
      names = (
        before.names.0 ++ name ∷ [],
        takes_more _ _ _ _ before.names.0 (name ∷ []) before.names.1 next,
        files_then _ printed (AreVisits all held before.names.0) (AreOf all held name) (AreVisits all held (before.names.0 ++ name ∷ [])) _ _ _ _ _ _ _ _ _ _ _
            _
            (λ v w first second. visits_next all held before.names.0 name v w first second) before.names.2 file c.match_listed.ensures.stays_failed,
      );
      quiet = λ no_progress none. told.quiet no_progress none ∙ before.quiet no_progress (first_failed _ _ _ _ _ _ _ _ _ _ told.answers none);
      sound = told.writes before.sound;
      stays_failed = λ sound. before.stays_failed (c.match_listed.ensures.stays_failed sound);
    }

pub returns-clause-answers : goal.returns-clause-answers
returns-clause-answers g c =
    let before = c.names.invariant in
    let done = subst (λ e. AreListed e (unread_of g.I.Input.to_come c.names.list) []) before.end
    (c.next.ensures.done (c.in_ok-next.was ∙ ap Ok c.if-branch.false)) in
    files_as _ _ _ _ _ _ _ _ _ _ _ _ (λ v is. (before.names.0, takes_all _ _ _ before.names.0 before.names.1 done, is)) before.names.2

pub returns-in_err-write_head-clause-ended : goal.returns-in_err-write_head-clause-ended
returns-in_err-write_head-clause-ended g c =
    let p = err_from_is_err_and c.from_residual.result c.from_residual.ensures.1 in
    let some = some_listed c.args.list.now.end (unread_of g.I.Input.to_come c.args.list.now) in
    let visits = some_visits c.args.run.now.ask.recursive (g.S.Store.held c.args.run.now.store.now) some.0 in
    rw p.1 record {
      cut = head_cut _ _ _ _ _ _ _ _ _ (visits.0, (some.0, some.1, visits.1)) c.in_err-write_head.ensures.cut;
      whole = λ other. absurd (other (p.2 ∙ c.in_err-write_head.ensures.write.0));
    }

pub returns-in_err-next-clause-ended : goal.returns-in_err-next-clause-ended
returns-in_err-next-clause-ended g c =
    let p = err_from_is_err_and c.from_residual-in_err-next.result c.from_residual-in_err-next.ensures.1 in
    let before = c.names.invariant in
    let first = takes_first_of c.args.list.now.end _ _ before.names.0 before.names.1 in
    rw p.1 record {
      cut = files_first _ _ _ _ _ _ _ _ _ _ _ _ (λ v is.
          let more = visits_more c.args.run.now.ask.recursive (g.S.Store.held c.args.run.now.store.now) before.names.0 first.0 v is in
          (more.0, (before.names.0 ++ first.0, first.1, more.1))) before.names.2;
      whole = λ other. files_stopped _ _ _ _ _ _ _ _ _ _ _ _ (λ v is.
          let more = visits_more c.args.run.now.ask.recursive (g.S.Store.held c.args.run.now.store.now) before.names.0 first.0 v is in
          (more.0, (before.names.0 ++ first.0, first.1, more.1))) before.names.2;
    }

pub returns-in_err-tally-clause-ended : goal.returns-in_err-tally-clause-ended
returns-in_err-tally-clause-ended g c =
    let p = err_from_is_err_and c.from_residual-in_err-tally.result c.from_residual-in_err-tally.ensures.1 in
    let before = c.names.invariant in
    let held = g.S.Store.held c.args.run.now.store.now in
    let all = c.args.run.now.ask.recursive in
    let name = c.next.new.name.items in
    let printed = IsPrinted g.S.Reader.Input.failed c.args.run.now.ask (g.K.DroidCore.lists c.args.run.now.core.now) held in
    let next = subst (λ e. TakesNames e (unread_of g.I.Input.to_come c.names.list) (name ∷ []) (unread_of g.I.Input.to_come c.next.new.self)) before.end
    (c.next.ensures.takes (c.in_ok-next.was ∙ ap Ok c.if-branch.true)) in
    let first = takes_first_more c.args.list.now.end _ _ _ before.names.0 (name ∷ []) before.names.1 next in
    let cut = subst (λ n. CutsFiles [] printed (AreOf all held n) c.args.run.now.ask.progress c.names.tally (g.W.Output.written c.names.out)
    (g.W.Output.written c.match_listed.new.out) (g.E.Output.failed c.match_listed.new.err) (g.E.Output.written c.names.err)
    (g.E.Output.written c.match_listed.new.err))
    c.deref.ensures.value c.in_err-tally.ensures.cut in
    rw p.1 record {
      cut = files_cut _ printed (AreVisits all held before.names.0) (AreOf all held name)
          (AreListedVisits all held c.args.list.now.end (unread_of g.I.Input.to_come c.args.list.now)) _ _ _ _ _ _ _ _ _ _ _
          (λ v w one two. let more = visits_next_more all held before.names.0 name first.0 v w one two in
          (more.0, (before.names.0 ++ (name ∷ []) ++ first.0, first.1, more.1))) before.names.2 cut c.match_listed.ensures.stays_failed;
      whole = λ other. absurd (other (p.2 ∙ c.in_err-tally.ensures.write.0));
    }
