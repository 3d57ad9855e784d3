use Rattle.sig_scan.proofs.Common.{ℕ, arith}
use Rattle.sig_scan.proofs.HeldLemmas.{AreHeld-course}
use Rattle.sig_scan.proofs.program.keep_of.Goals as goal
use Rattle.sig_scan.proofs.program.keep_of.Goals.{in-Some, in_default}

pub overflow_add-tail-inside : goal.overflow_add-tail-inside
overflow_add-tail-inside c =
    let held = c.requires.tails c.loop-course.course-index c.course-item.result c.loop-course-test.true c.in-Some.tail in
    grind (arith, held, c.course-item.is, c.in-Some.is, c.tail.view_is, c.tail.invariant.0)

pub loop-course-preserved : goal.loop-course-preserved
loop-course-preserved c =
    let stages = c.args.stages.now in
    let courses = c.args.courses.now in
    let i = c.loop-course.course-index in
    let x = c.course-item.result in
    let n : ℕ = c.loop-course.longest in
    let m : ℕ = c.match-course.longest in
    let few = c.loop-course.invariant.few in
    let held = c.loop-course.invariant.held in
    elim c.match-course.branch [
      | in-Some w ↦ (
          let known = c.requires.tails i x c.loop-course-test.true w.in-Some.tail in
          record {
            held = AreHeld-course n m stages courses i x c.loop-course-test.true c.course-item.is (omega arith)
                (λ u is. grind (arith, w.in-Some.is, w.tail.view_is)) held;
            few = grind (arith, known, c.course-item.is, w.in-Some.is, w.tail.view_is, w.tail.invariant.0);
          })
      | in_default w ↦ record {
        held = AreHeld-course n m stages courses i x c.loop-course-test.true c.course-item.is (omega arith) (λ u is. absurd (cc (w.in_default.is, is))) held;
        few = omega arith;
      }
    ]
