use Rattle.std.proofs.Common.{arith, refl}
use Rattle.sig_expr.specs.Words.{PartWord}
use Rattle.sig_match.proofs.ReachLemmas.{Gains-no_intervals, Gains-next, HasExactly-all}
use Rattle.sig_match.proofs.whole.advance.after_bracket.Goals as goal

pub loop-interval-init : goal.loop-interval-init
loop-interval-init c = Gains-no_intervals (PartWord c.args.part.now) c.args.file.now c.args.frontier.now _

pub loop-interval-preserved : goal.loop-interval-preserved
loop-interval-preserved c =
    Gains-next (PartWord c.args.part.now) c.args.file.now c.args.frontier.now c.loop-interval.interval-index _ _ _ _ (omega arith) refl
    c.loop-interval.invariant c.in_ok-add_after_bracket.ensures

pub returns : goal.returns
returns c =
    HasExactly-all (PartWord c.args.part.now) c.args.file.now c.args.frontier.now c.loop-interval.interval-index _ c.loop-interval.ends.items (omega arith)
    c.clear.ensures.items c.loop-interval.invariant
