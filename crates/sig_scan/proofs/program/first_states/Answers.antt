use Rattle.sig_scan.proofs.Common.{◌∷◌, [], arith, length-append}
use Rattle.sig_scan.proofs.FirstLemmas.{AreFirst-pushed}
use Rattle.sig_scan.proofs.program.first_states.Goals as goal

pub loop-course-preserved : goal.loop-course-preserved
loop-course-preserved c =
    let stages = c.args.stages.now in
    let states = c.loop-course.states.items in
    let t = c.first_state.result in
    let count = c.loop-course.invariant.count in
    let all = length-append states (t ∷ []) in
    let first = AreFirst-pushed stages c.args.courses.now states c.loop-course.course-index c.course-item.result t count c.loop-course-test.true
    c.course-item.is c.first_state.ensures c.loop-course.invariant.first in
    rw c.in_ok-push.ensures.items (record { count = omega arith; first = first })
