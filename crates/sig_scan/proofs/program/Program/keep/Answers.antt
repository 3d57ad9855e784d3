use Rattle.sig_scan.proofs.Common.{ap, map, sym, All-same, IsShortCourse, ProgramView, course_in}
use Rattle.sig_scan.proofs.HeldLemmas.{IsHeld-each}
use Rattle.sig_scan.proofs.ScanLemmas.{courses-short}
use Rattle.sig_scan.proofs.program.Program.keep.Goals as goal

pub returns-clause-holds : goal.returns-clause-holds
returns-clause-holds c =
    let keep = c.self.inside.keep in
    let stages = c.self.inside.stages.items in
    let courses = c.self.inside.courses.items in
    let compiled = c.self.invariant.0 in
    All-same (IsShortCourse keep) c.args.self.now.courses (map (course_in stages) courses) (ap (λ (v : ProgramView). v.courses) (sym c.self.view_is))
    (courses-short keep (map (course_in stages) courses) compiled.bounded (IsHeld-each keep stages courses compiled.held))
