use Rattle.sig_auto.proofs.Common.{arith, EnteredOn}
use Rattle.sig_auto.proofs.BehindLemmas.{less_left}
use Rattle.sig_auto.proofs.CellSideLemmas.{entered_cuts, entered_live, none_on}
use Rattle.sig_auto.proofs.CutLemmas.{cuts_none, live_none}
use Rattle.sig_auto.proofs.bytes.add_entered.Goals as goal

pub loop-at-smaller : goal.loop-at-smaller
loop-at-smaller c = less_left c.args.cells.now c.args.joints.now c.loop-at.at _ c.requires.joints (omega arith) c.index.ensures

pub loop-at-preserved : goal.loop-at-preserved
loop-at-preserved c = record {
  live = λ all more. c.loop-at.invariant.live all
      (entered_live c.args.cells.now c.args.joints.now c.loop-at.at _ _ c.loop-at.live c.add_class.new.live all c.requires.joints (omega arith) c.index.ensures
      c.add_class.ensures.live more);
  cuts = λ all more. c.loop-at.invariant.cuts all
      (entered_cuts c.args.cells.now c.args.joints.now c.loop-at.at _ _ c.loop-at.cuts c.add_class.new.cuts all c.requires.joints (omega arith) c.index.ensures
      c.add_class.ensures.cuts more);
  kept = λ b had. c.add_class.ensures.kept b (c.loop-at.invariant.kept b had);
}

pub returns-clause-live : goal.returns-clause-live
returns-clause-live c =
    c.loop-at.invariant.live c.loop-at.live (live_none c.loop-at.live (EnteredOn c.args.cells.now c.loop-at.at)
    (λ b q on. none_on c.args.cells.now c.loop-at.at b q (omega arith) on))

pub returns-clause-cuts : goal.returns-clause-cuts
returns-clause-cuts c =
    c.loop-at.invariant.cuts c.loop-at.cuts (cuts_none c.loop-at.cuts (EnteredOn c.args.cells.now c.loop-at.at)
    (λ b q on. none_on c.args.cells.now c.loop-at.at b q (omega arith) on))
