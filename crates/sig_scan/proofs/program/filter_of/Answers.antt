use Rattle.sig_scan.proofs.Common.{map, arith, course_in}
use Rattle.sig_scan.proofs.PassLemmas.{stage-of_course}
use Rattle.sig_scan.proofs.program.filter_of.Goals as goal

pub loop-stage-preserved : goal.loop-stage-preserved
loop-stage-preserved c = c.in_ok-add_literal.ensures (map (course_in c.args.stages.now) c.args.courses.now)
    (λ v at. stage-of_course c.args.stages.now c.args.courses.now c.loop-sequence.sequence c.loop-stage.stage c.index-courses-sequence.result
    c.index-stages-stage.result v (omega arith) c.index-courses-sequence.is (omega arith) (omega arith) (omega arith) c.index-stages-stage.is at)
    c.loop-stage.invariant
