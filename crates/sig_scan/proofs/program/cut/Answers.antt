use Rattle.sig_scan.proofs.Common.{◌++◌, [], List, arith, StageView, stages_of}
use Rattle.sig_scan.proofs.ProgramLemmas.{stages_of-more, stages_of-same}
use Rattle.sig_scan.proofs.program.cut.Goals as goal
use Rattle.sig_scan.proofs.program.cut.Goals.{in-Some+in_ok-stage+in_ok-push, in_default}

pub loop-i-preserved : goal.loop-i-preserved
loop-i-preserved c =
    let xs = c.args.items.now in
    let i = c.loop-i.i in
    let x = c.index-items-i.result in
    let all : List StageView = c.args.stages.now.items ++ stages_of c.args.until [] xs in
    let at = c.loop-i-test.true in
    elim c.match-unbounded.branch [
      | in-Some+in_ok-stage+in_ok-push w ↦ (
          let next = stages_of-more xs c.loop-i.stages.items all c.loop-i.until c.loop-i.begin i w.in-Some.delay x at c.index-items-i.is
          w.in-Some.ensures c.loop-i.invariant.same in
          let pushed = w.in_ok-push.ensures.items in
          let stage = w.in_ok-stage.ensures in
          record { in_range = omega arith; same = (rw (w.stages-is, w.until-is, w.begin-is, pushed, stage) next) })
      | in_default w ↦ (
          let next = stages_of-same xs c.loop-i.stages.items all c.loop-i.until c.loop-i.begin i x c.loop-i.invariant.in_range at c.index-items-i.is
          w.in_default.ensures c.loop-i.invariant.same in
          record { in_range = omega arith; same = (rw (w.stages-is, w.until-is, w.begin-is) next) })
    ]
