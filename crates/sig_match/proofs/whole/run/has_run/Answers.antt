use Rattle.std.proofs.Common.{◌<◌, length, get_or, arith, refl, sym, ◌∙◌}
use Rattle.memchr.specs.Find.{OccursAt}
use Rattle.sig_match.specs.declared.whole.frontier.Interval.{Interval}
use Rattle.sig_match.proofs.FrontierLemmas.{Meets-none_more, nowhere}
use Rattle.sig_match.proofs.RunLemmas.{Meets-first, none_first}
use Rattle.sig_match.proofs.whole.run.has_run.Goals as goal

pub returns-then-is_some : goal.returns-then-is_some
returns-then-is_some c =
    let at : c.loop-interval.interval-index < length c.args.frontier.now = omega arith in (
      λ _. Meets-first c.args.file.now c.args.run.now c.args.frontier.now c.loop-interval.interval-index c.first_of.result at
          (sym c.is_some.ensures ∙ c.if-is_some.true) (rw (← c.new-finder.ensures) c.first_of.ensures),
      λ _. refl,
    )

pub loop-interval-preserved : goal.loop-interval-preserved
loop-interval-preserved c =
    let x : Interval = get_or c.args.frontier.now c.loop-interval.interval-index nowhere in
    let at : c.loop-interval.interval-index < length c.args.frontier.now = omega arith in
    Meets-none_more (OccursAt c.args.file.now c.args.run.now) c.args.frontier.now c.loop-interval.interval-index x at refl
    (none_first c.args.file.now c.args.run.now x c.first_of.result (sym c.is_some.ensures ∙ c.if-is_some.false)
    (rw (← c.new-finder.ensures) c.first_of.ensures))
    c.loop-interval.invariant
