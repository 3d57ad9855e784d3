-- The stages of a sequence, as a loop over its items finds them, and the courses of many.
use Rattle.sig_scan.proofs.Common.{◌≡◌, ℕ, ◌+◌, ◌-◌, ◌≤◌, ◌<◌, List, [], ◌∷◌, ◌++◌, length, get_or, drop, Option, None, Some, map, refl, subst, sym, ap, ap₂}
use Rattle.sig_scan.proofs.Common.{◌∙◌, arith, append_assoc, length-append, All, slice_range, drop-append-le, drop_at, drop_more, length-drop, map_push}
use Rattle.sig_scan.proofs.Common.{same_from_push, take-append-le, take_all, between_more, between_none, All-head, All-push, All-tail, All-weaker, Item}
use Rattle.sig_scan.proofs.Common.{IsBoundedItem, Position, SequenceView, Course, AddsCourse, AreCourses, StandsIn, course_in, CourseView, StageView}
use Rattle.sig_scan.proofs.Common.{all_but_last, course_of, last_items, stages_of, max, min}
use Rattle.sig_expr.specs.declared.item.Item.TheVariants as item
use Rattle.sig_table.specs.declared.position.Position.TheVariants as position
use Rattle.sig_scan.proofs.CutLemmas.{stages_of-some}

stages_of-other : (until : Option ℕ) (before later : List Item) (x : Item) → IsBoundedItem x
    → stages_of until before (x ∷ later) ≡ stages_of until (before ++ x ∷ []) later
stages_of-other until before later (item.Gap min None) bounded = absurd bounded
stages_of-other until before later x bounded = refl

-- a stage more
pub stages_of-more : (items : List Item) (stages all : List StageView) (until : Option ℕ) (begin i min : ℕ) (x : Item) → i < length items → x ≡ get_or items i x
    → x ≡ item.Gap min None → stages ++ stages_of until (slice_range items begin i) (drop i items) ≡ all
    → (stages ++ record { items = slice_range items begin i; until = until; delay = min } ∷ []) ++ stages_of None (slice_range items (i + 1) (i + 1))
    (drop (i + 1) items) ≡ all
stages_of-more items stages all until begin i min x at is gap same =
    let later : List Item = drop (i + 1) items in
    let next : drop i items ≡ item.Gap min None ∷ later = drop_more items i x at ∙ ap (λ (y : Item). y ∷ later) (sym is ∙ gap) in
    rw (between_none items (i + 1), append_assoc) (rw next at same)

-- an item more of the same stage
pub stages_of-same : (items : List Item) (stages all : List StageView) (until : Option ℕ) (begin i : ℕ) (x : Item) → begin ≤ i → i < length items
    → x ≡ get_or items i x → IsBoundedItem x → stages ++ stages_of until (slice_range items begin i) (drop i items) ≡ all
    → stages ++ stages_of until (slice_range items begin (i + 1)) (drop (i + 1) items) ≡ all
stages_of-same items stages all until begin i x order at is bounded same =
    let later : List Item = drop (i + 1) items in
    let next : drop i items ≡ x ∷ later = drop_more items i x at ∙ ap (λ (y : Item). y ∷ later) (sym is) in
    let more = between_more items begin i x order at ∙ ap (λ (y : Item). slice_range items begin i ++ y ∷ []) (sym is) in
    rw (more, ← stages_of-other until (slice_range items begin i) later x bounded) (rw next at same)

-- stages are those before the last one, and the last one
stages_split : (t : StageView) (ts : List StageView) → (l : StageView) × (t ∷ ts ≡ all_but_last (t ∷ ts) ++ l ∷ []) × (l.items ≡ last_items (t ∷ ts))
stages_split t [] = (t, refl, refl)
stages_split t (u ∷ us) = let rest = stages_split u us in (rest.0, ap (λ (l : List StageView). t ∷ l) rest.1, rest.2)

-- so the last stage of a sequence is known where it is put behind those before it
pub last_is : (old new : List StageView) (last : StageView) (items : List Item) → new ++ last ∷ [] ≡ old ++ stages_of None [] items
    → (new ≡ old ++ all_but_last (stages_of None [] items)) × (last.items ≡ last_items (stages_of None [] items))
last_is old new last items same =
    let (t, ts, is) = stages_of-some None [] items in
    let split = stages_split t ts in
    let push = same_from_push new (old ++ all_but_last (t ∷ ts)) last split.0
    ((rw is at same) ∙ ap (λ (l : List StageView). old ++ l) split.1 ∙ sym (append_assoc old (all_but_last (t ∷ ts)) (split.0 ∷ []))) in
    rw is (push.0, ap (λ (s : StageView). s.items) push.1 ∙ split.2)

-- the stages and the tail of a sequence at the end of a file are added
pub AddsCourse-to_end : (old new : List StageView) (s : SequenceView) (last : StageView) (min max first end : ℕ) → s.position ≡ position.Eof min max
    → new ++ last ∷ [] ≡ old ++ stages_of None [] s.items → first ≡ length old → end ≡ length new
    → AddsCourse old new (record { from = 0; first = first; end = end; tail = Some (record { items = last.items; min = min; max = max }) })
    (course_of s)
AddsCourse-to_end old new s last min max first end at same first_is end_is =
    let c : Course = record { from = 0; first = first; end = end; tail = Some (record { items = last.items; min = min; max = max }) } in
    let known = last_is old new last s.items same in
    subst (λ (p : Position). AddsCourse old new c (course_of (record { position = p; items = s.items }))) (sym at)
    (record { stages = known.0; from = refl; first = first_is; end = end_is; tail = rw known.1 refl })

-- what is put behind a list leaves its parts
slice_range-kept : (old more : List StageView) (a e : ℕ) → e ≤ length old → slice_range (old ++ more) a e ≡ slice_range old a e
slice_range-kept old more a e within = grind (arith, drop-append-le a old more, take-append-le (e - a) (drop a old) more, length-drop a old)

-- so the courses before stay those that they were
courses-kept : (old more : List StageView) (cs : List Course) → All (StandsIn old) cs → map (course_in (old ++ more)) cs ≡ map (course_in old) cs
courses-kept old more [] within = refl
courses-kept old more (c ∷ cs) within =
    let here = slice_range-kept old more c.first c.end (All-head (StandsIn old) c cs within).1 in
    rw (here, courses-kept old more cs (All-tail (StandsIn old) c cs within)) refl

-- what is added is the next course
pub course-added : (old new : List StageView) (c : Course) (course : CourseView) → AddsCourse old new c course → course_in new c ≡ course
course-added old new c course adds =
    grind (arith, length-append old course.stages, drop_at old course.stages (length old) refl, take_all (length course.stages) course.stages)

-- a course more
pub AreCourses-push : (old new : List StageView) (cs : List Course) (courses : List CourseView) (c : Course) (course : CourseView) → AreCourses old cs courses
    → AddsCourse old new c course → AreCourses new (cs ++ c ∷ []) (courses ++ course ∷ [])
AreCourses-push old new cs courses c course are adds =
    let len : length new ≡ length old + length course.stages = ap length adds.stages ∙ length-append old course.stages in
    let before : map (course_in new) cs ≡ courses = rw adds.stages (courses-kept old course.stages cs are.within ∙ are.same) in
    record {
      same = map_push (course_in new) cs c ∙ ap₂ (λ (vs : List CourseView) (v : CourseView). vs ++ v ∷ []) before (course-added old new c course adds);
      within = All-push (StandsIn new) cs c (All-weaker (StandsIn old) (StandsIn new) (λ d below. (below.0, omega arith)) cs are.within)
          (omega (arith, adds.first, adds.end), omega (arith, adds.end));
    }
