use Rattle.sig_scan.proofs.Common.{◌≡◌, ◌∙◌, ◌++◌, ◌∷◌, [], ◌+◌, ◌<◌, All, All-push, Bool, List, ap, arith, false, get_or, length, length-map, map, refl, rules}
use Rattle.sig_scan.proofs.Common.{slice_get, slice_get-within, slice_get_read, subst, sym, AreFirst, AreLiteralsOf, Course, CourseView, IsBoundedCourse}
use Rattle.sig_scan.proofs.Common.{SequenceView, StageView, course_if, course_in, Some, length-append}
use Rattle.sig_scan.proofs.CompiledLemmas.{AreAdded, AreAdded-next, AreAdded-none, AreAdded-push, IsProgramOf-added, course_if-bounded}
use Rattle.sig_scan.proofs.HeldLemmas.{AreHeld-push}
use Rattle.sig_scan.proofs.ProgramLemmas.{AreCourses-push}
use Rattle.sig_scan.proofs.Common.{ℕ, All-get_or, IsSequence, get_or_from_slice_get, slice_get_within}
use Rattle.sig_table.specs.Tables.{IsSignature}
use Rattle.sig_scan.proofs.program.Program.of.Goals as goal

-- what holds of all members holds of the one at an index
at_all : {A : Type 0} (P : A → Type 0) (xs : List A) (i : ℕ) (x : A) → slice_get xs i ≡ Some x → All P xs → P x
at_all P xs i x at all = subst P (get_or_from_slice_get xs i x x at) (All-get_or P xs i x (slice_get_within xs i x at) all)

pub loop-index-init : goal.loop-index-init
loop-index-init c = record {
  within = search rules;
  held = search rules;
  bounded = search rules;
  count = search rules;
  added = rw (c.in_ok-courses.ensures.items, c.in_ok-owners.ensures.items) (AreAdded-none c.args.table.now c.args.may_hit.now);
}

pub loop-sequence-preserved : goal.loop-sequence-preserved
loop-sequence-preserved c =
    let table = c.args.table.now in
    let flags = c.args.may_hit.now in
    let index = c.loop-index.index in
    let sequences = c.sequences_of-sequence-items.result.now in
    let i = c.loop-sequence.sequence-index in
    let x = c.sequence-item.result in
    let b : Bool = get_or flags index false in
    let old : List StageView = c.loop-sequence.stages.items in
    let stages : List StageView = c.add_course.new.stages.items in
    let cs = c.loop-sequence.courses.items in
    let course = c.in_ok-course.course in
    let courses : List CourseView = map (course_in old) cs in
    let owners = c.loop-sequence.owners.items in
    let size : length courses ≡ length owners = length-map cs (course_in old) ∙ sym c.loop-sequence.invariant.count in
    let within : index < length table.signatures = omega arith in
    let g = slice_get-within table.signatures index within in
    let same = c.sequences_of-sequence-items.ensures.of_view g.0 g.1 in
    let at = subst (λ (l : List SequenceView). slice_get l i ≡ Some x) same
    (slice_get_read sequences (length sequences) i x refl c.loop-sequence-test.true c.sequence-item.is) in
    let more = AreCourses-push old stages cs courses course (course_if b x) (record { same = refl; within = c.loop-sequence.invariant.within })
    c.in_ok-course.ensures in
    let signature = at_all (IsSignature (length table.formats)) table.signatures index g.0 g.1 c.sequences_of-sequence-items.ensures.table.each in
    let sequence = at_all IsSequence g.0.sequences i x at signature.sequences in
    let added = AreAdded-push table flags index i owners courses g.0 x size g.1 at c.loop-sequence.invariant.added in
    let bounded = All-push IsBoundedCourse courses (course_if b x) c.loop-sequence.invariant.bounded (course_if-bounded b x) in
    let Now : List CourseView → Type 0 = λ l. All IsBoundedCourse l × AreAdded table flags index (i + 1) (owners ++ index ∷ []) l in
    let now : Now (map (course_in stages) (cs ++ course ∷ [])) = subst Now (sym more.same) (bounded, added) in
    let many = length-append owners (index ∷ []) in
    let count = length-append cs (course ∷ []) in
    let was = c.loop-sequence.invariant.count in
    rw (c.in_ok-push.ensures.items, c.in_ok-push-2.ensures.items) (record {
      within = more.within;
      held = AreHeld-push old stages cs course b x c.loop-sequence.invariant.held c.in_ok-course.ensures sequence;
      bounded = now.0;
      count = omega arith;
      added = now.1;
    })

pub loop-index-preserved : goal.loop-index-preserved
loop-index-preserved c =
    let table = c.args.table.now in
    let index = c.loop-index.index in
    let within : index < length table.signatures = omega arith in
    let g = slice_get-within table.signatures index within in
    let size = ap length (c.sequences_of-sequence-items.ensures.of_view g.0 g.1) in
    let done = c.loop-sequence-test.false in
    record {
      within = c.loop-sequence.invariant.within;
      held = c.loop-sequence.invariant.held;
      bounded = c.loop-sequence.invariant.bounded;
      count = c.loop-sequence.invariant.count;
      added = AreAdded-next table c.args.may_hit.now index c.loop-sequence.sequence-index _ _ g.0 g.1 (omega arith) c.loop-sequence.invariant.added;
    }

pub invariant_of-result : goal.invariant_of-result
invariant_of-result c =
    let stages = c.loop-index.stages.items in
    let courses = c.loop-index.courses.items in
    let Early : List StageView → List Course → Type 0 = λ l cs. AreLiteralsOf (map (course_in l) cs) c.in_ok-early.early in
    let Late : List StageView → List Course → Type 0 = λ l cs. AreLiteralsOf (map (course_in l) cs) c.in_ok-late.late in
    let First : List StageView → List Course → Type 0 = λ l cs. AreFirst (map (course_in l) cs) c.in_ok-states.states.items in (
      record {
        held = search rules;
        few = search rules;
        within = c.loop-index.invariant.within;
        bounded = c.loop-index.invariant.bounded;
        early_literals = subst (λ l. Early l courses) c.deref-3.ensures.value
            (subst (Early c.deref-3.result.now) c.deref-5.ensures.value c.in_ok-early.ensures);
        late_literals = subst (λ l. Late l courses) c.deref-6.ensures.value (subst (Late c.deref-6.result.now) c.deref-8.ensures.value c.in_ok-late.ensures);
      },
      search rules,
      search rules,
      subst (λ l. First l courses) c.deref.ensures.value (subst (First c.deref.result.now) c.deref-2.ensures.value c.in_ok-states.ensures.first),
    )

pub returns : goal.returns
returns c =
    let total = c.signature_count-index-end.ensures.count in
    let done = c.loop-index-test.false in
    IsProgramOf-added c.args.table.now c.args.may_hit.now c.loop-index.index _ (omega arith) c.loop-index.invariant.added
