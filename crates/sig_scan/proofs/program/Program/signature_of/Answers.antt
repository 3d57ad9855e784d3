use Rattle.sig_scan.proofs.Common.{◌≡◌, ap, arith, length, map, refl, subst, slice_get, slice_get_read, ProgramView, course_in, length-map, Some}
use Rattle.sig_scan.proofs.program.Program.signature_of.Goals as goal

pub returns : goal.returns
returns c =
    let owners = c.self.inside.owners.items in
    let cs = c.self.inside.courses.items in
    let k = c.args.sequence in
    let size = length-map cs (course_in c.self.inside.stages.items) in
    let count : length owners ≡ length cs = c.self.invariant.1 in
    let same : length (map (course_in c.self.inside.stages.items) cs) ≡ length c.args.self.now.courses =
    ap (λ (v : ProgramView). length v.courses) c.self.view_is in
    let low = c.requires in
    subst (λ (v : ProgramView). slice_get v.owners k ≡ Some c.index.result.now) c.self.view_is
    (slice_get_read owners (length owners) k c.index.result.now refl (omega arith) c.index.ensures)
