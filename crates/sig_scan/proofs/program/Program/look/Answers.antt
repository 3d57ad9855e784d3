use Rattle.sig_scan.proofs.Common.{List, arith, inl, inr, length, map, subst, cases_lt, get_or_past, course_in, ProgramView, ArePast, CourseView}
use Rattle.sig_scan.proofs.PassLemmas.{ArePast-missed}
use Rattle.sig_scan.proofs.program.Program.look.Goals as goal

pub returns : goal.returns
returns c =
    let courses : List CourseView = map (course_in c.self.inside.stages.items) c.self.inside.courses.items in
    let bytes = c.args.bytes.now in
    let states = c.args.states.now in
    let none = c.fill.new.self in
    let early = c.look.new.found in
    let late = c.look-2.new.found in
    let compiled = c.self.invariant.0 in
    subst (λ (v : ProgramView). ArePast v.courses states bytes late) c.self.view_is
    (ArePast-missed c.self.inside.late courses bytes states early late compiled.late_literals c.look-2.ensures
    (ArePast-missed c.self.inside.early courses bytes states none early compiled.early_literals c.look.ensures
    (λ k x d t course state low high. elim (cases_lt k (length none)) [
      | inl inside ↦ absurd (omega arith)
      | inr outside ↦ (let past = get_or_past none k 0 outside in absurd (omega arith))
    ])))
