use Rattle.std.proofs.Common.{refl, ◌∙◌}
use Rattle.std.proofs.lemmas.Result.{err_from_is_err_and}
use Rattle.sig_engines.proofs.ManyLemmas.{files_none, files_off, files_on, first_failed, head_cut, some_visits}
use Rattle.sig_engines.proofs.many_engine.match_words.Goals as goal

pub loop-name-init : goal.loop-name-init
loop-name-init g c = (
  rw c.new-tally.ensures (files_none _ _ _ _ _ _ _ _ _ refl c.in_ok-write_head.ensures.adds),
  λ no_progress none. refl,
  c.in_ok-write_head.ensures.sound,
  λ sound. sound,
)

pub loop-name-preserved : goal.loop-name-preserved
loop-name-preserved g c =
    let told = c.in_ok-tally.ensures in
    let before = c.loop-name.invariant in (
      files_on _ _ c.args.run.now.ask.recursive (g.S.Store.held c.args.run.now.store.now) _ c.args.names.now c.loop-name.name-index _ _ _ _ _ _ _ _ _ _ _ _ _
          c.loop-name-test.true before.0 told.answers c.match_name.ensures.stays_failed,
      λ no_progress none. told.quiet no_progress none ∙ before.1 no_progress (first_failed _ _ _ _ _ _ _ _ _ _ told.answers none),
      told.writes before.2,
      λ sound. before.3 (c.match_name.ensures.stays_failed sound),
    )

pub returns-in_err-tally-clause-cut : goal.returns-in_err-tally-clause-cut
returns-in_err-tally-clause-cut g c =
    let p = err_from_is_err_and c.from_residual-in_err-tally.result c.from_residual-in_err-tally.ensures.1 in
    rw p.1 (files_off _ _ c.args.run.now.ask.recursive (g.S.Store.held c.args.run.now.store.now) _ c.args.names.now c.loop-name.name-index _ _ _ _ _ _ _ _ _ _ _
    _ c.loop-name-test.true c.loop-name.invariant.0 c.in_err-tally.ensures.cut c.match_name.ensures.stays_failed)

pub returns-in_err-write_head-clause-cut : goal.returns-in_err-write_head-clause-cut
returns-in_err-write_head-clause-cut g c =
    let p = err_from_is_err_and c.from_residual.result c.from_residual.ensures.1 in
    rw p.1 (head_cut _ _ _ _ _ _ _ _ _ (some_visits c.args.run.now.ask.recursive (g.S.Store.held c.args.run.now.store.now) _) c.in_err-write_head.ensures.cut)
