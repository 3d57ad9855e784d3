use Rattle.sig_scan.proofs.Common.{◌≡◌, ◌+◌, ◌∙◌, ap, arith, rules, Some, subst, sym, slice_get-get_or, slice_get, course_in, StageView}
use Rattle.sig_scan.proofs.FirstLemmas.{IsFirst-behind}
use Rattle.sig_scan.proofs.PassLemmas.{slice_get-range}
use Rattle.sig_scan.proofs.program.first_state.Goals as goal

pub returns-then-is_empty : goal.returns-then-is_empty
returns-then-is_empty c =
    let stages = c.args.stages.now in
    let d = c.args.course.now in
    let u : StageView = c.index-stages-course.result in
    let there : slice_get stages d.first ≡ Some u = slice_get-get_or stages d.first u (omega arith) ∙ ap (λ (x : StageView). Some x)
    (sym c.index-stages-course.is) in
    let same : d.first + 0 ≡ d.first = omega arith in
    let at = slice_get-range stages d.first d.end 0 u (omega arith) (subst (λ n. slice_get stages n ≡ Some u) (sym same) there) in
    IsFirst-behind (course_in stages d) _ (omega arith)
    (subst (λ (v : StageView). slice_get (course_in stages d).stages 0 ≡ Some v) (sym c.stage.view_is) at) (search rules) (search rules)
