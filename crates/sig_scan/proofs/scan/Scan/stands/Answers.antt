use Rattle.sig_scan.proofs.Common.{◌≡◌, ◌∙◌, ◌<◌, List, ap, arith, length, max, refl, sym, subst, get_or_default, slice_get_read, slice_get, slice_index}
use Rattle.sig_scan.proofs.Common.{EndsPast, IsScanOf, ScanView, CourseView, StageView, State, slice_get-within, ℕ, ◌↔◌, ◌≤◌, Some, true, IsTrue, Stands}
use Rattle.sig_scan.proofs.MarkedLemmas.{Stands-judged}
use Rattle.sig_scan.proofs.scan.Scan.stands.Goals as goal

pub stands-requires-clause-done : goal.stands-requires-clause-done
stands-requires-clause-done c =
    let k = c.args.sequence in
    let courses : List CourseView = c.self.inside.program.now.courses in
    let states : List State = c.self.inside.states.items in
    let t : State = c.index-state.result.now in
    let count = c.self.invariant.count in
    let inside : k < length courses = subst (λ (v : ScanView). k < length v.program.courses) (sym c.self.view_is) c.requires in
    let course = slice_get-within courses k inside in
    let state = slice_get_read states (length states) k t refl (omega arith) c.index-state.ensures in
    subst (λ (l : List StageView). t.done ≤ length l) (sym (c.stages_of-stages.ensures course.0 course.1))
    (c.self.invariant.done k course.0 t course.1 state)

pub returns-clause-stands : goal.returns-clause-stands
returns-clause-stands c table file of g s past owner may sequence =
    let k = c.args.sequence in
    let self = c.self.inside in
    let courses : List CourseView = self.program.now.courses in
    let states : List State = self.states.items in
    let found : List ℕ = self.found.items in
    let t : State = c.index-state.result.now in
    let count = c.self.invariant.count in
    let size = c.self.invariant.found_len in
    let n : ℕ = c.index.result.now in
    let scan : ScanView = record {
      program = self.program.now;
      keep = self.keep;
      base = self.base;
      buffer = self.buffer;
      states = states;
      may_hit = self.may_hit.items;
      found = found;
    } in
    let P : ScanView → Type 0 = λ v. (of : IsScanOf table file v) → k < length v.program.courses → EndsPast v → slice_get v.program.owners k ≡ Some g
    → slice_get v.may_hit g ≡ Some true → slice_get of.sequences k ≡ Some s → IsTrue c.stands.result ↔ Stands s file in
    let judged : P scan = λ known inside ends owns hits at. (
    let course = slice_get-within courses k inside in
    let state = slice_get_read states (length states) k t refl (omega arith) c.index-state.ensures in
    let n_is : n ≡ slice_index found k = c.index.ensures ∙ sym (get_or_default found k 0 n (omega arith)) in
    let from : c.max-from.result ≡ max t.from (slice_index found k) = c.max-from.ensures ∙ ap (λ (m : ℕ). max t.from m) n_is in
    Stands-judged table file scan known g k c.max-from.result s t course.0 c.stands.result c.stages_of-stages.result.now c.tail_of-tail.result.now
    c.as_bytes-bytes.result.now c.self.invariant.held course.1 state (c.stages_of-stages.ensures course.0 course.1)
    (c.tail_of-tail.ensures course.0 course.1) c.as_bytes-bytes.ensures.bytes from c.stands.ensures.stands ends owns hits at) in
    subst P c.self.view_is judged of c.requires past owner may sequence
