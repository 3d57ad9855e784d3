-- How many bytes hold the words of a compiled table.
use Rattle.sig_scan.proofs.Common.{◌≡◌, ℕ, ◌+◌, ◌-◌, ◌≤◌, ◌<◌, Bool, false, true, List, [], ◌∷◌, ◌++◌, length, get_or, map, take, drop, Option, None, subst}
use Rattle.sig_scan.proofs.Common.{sym, arith, All, IfSome, ForSome, All-append, All-drop, All-map, All-more, All-nil, All-push, All-take, All-weaker, Position}
use Rattle.sig_scan.proofs.Common.{IsSequence, SequenceView, Course, AddsCourse, AreHeld, IsHeld, course_if, course_in, span, StageView, TailView, last_items}
use Rattle.sig_scan.proofs.Common.{stages_of, max, min}
use Rattle.sig_table.specs.declared.position.Position.TheVariants as position
use Rattle.sig_scan.proofs.ProgramLemmas.{last_is}
use Rattle.sig_scan.proofs.ShortLemmas.{stages-short, tail-short}

-- the words of a stage, and of a tail, are held
abbrev IsHeldStage : ℕ → StageView → Type 0
IsHeldStage n t = span t.items ≤ n

abbrev IsHeldTail : ℕ → TailView → Type 0
IsHeldTail n t = span t.items + t.max ≤ n

abbrev IsHeldCourse : ℕ → Course → Type 0
IsHeldCourse n c = ForSome c.tail (IsHeldTail n)

-- by more bytes too
pub AreHeld-more : (n m : ℕ) (stages : List StageView) (cs : List Course) → n ≤ m → AreHeld n stages cs → AreHeld m stages cs
AreHeld-more n m stages cs more held = grind (arith, held.stages, held.tails)

-- the stages and the tail of a course
course_if-short : (b : Bool) (s : SequenceView) → IsSequence s → All (IsHeldStage 65535) (course_if b s).stages × IfSome (course_if b s).tail (IsHeldTail 65535)
course_if-short true s is = (stages-short s.position s.items is, tail-short s.position s.items is)
course_if-short false s is = (All-nil (IsHeldStage 65535), tt)

-- those of one more
pub AreHeld-push : (old new : List StageView) (cs : List Course) (c : Course) (b : Bool) (s : SequenceView) → AreHeld 65535 old cs
    → AddsCourse old new c (course_if b s) → IsSequence s → AreHeld 65535 new (cs ++ c ∷ [])
AreHeld-push old new cs c b s held adds is =
    let short = course_if-short b s is in
    grind (arith, All-append (IsHeldStage 65535) old (course_if b s).stages held.stages short.0, All-push (IsHeldCourse 65535) cs c held.tails, short.1)

-- one course more
pub AreHeld-course : (n m : ℕ) (stages : List StageView) (cs : List Course) (i : ℕ) (x : Course) → i < length cs → x ≡ get_or cs i x → n ≤ m
    → ForSome x.tail (λ (t : TailView). span t.items + t.max ≤ m) → AreHeld n stages (take i cs) → AreHeld m stages (take (i + 1) cs)
AreHeld-course n m stages cs i x at is more here held =
    let before = AreHeld-more n m stages (take i cs) more held in
    record { stages = before.stages; tails = All-more (IsHeldCourse m) cs i x at before.tails (subst (IsHeldCourse m) is here) }

-- so each course is
IfSome-from : (o : Option TailView) (n : ℕ) → ForSome o (IsHeldTail n) → IfSome o (IsHeldTail n)
IfSome-from o n h = grind (arith, h)

pub IsHeld-each : (n : ℕ) (stages : List StageView) (cs : List Course) → AreHeld n stages cs → All (IsHeld n) (map (course_in stages) cs)
IsHeld-each n stages cs held = All-map (IsHeld n) (course_in stages) cs (All-weaker (IsHeldCourse n) (λ c. IsHeld n (course_in stages c))
    (λ c h. record {
      stages = All-take (IsHeldStage n) (c.end - c.first) (drop c.first stages) (All-drop (IsHeldStage n) c.first stages held.stages);
      tail = IfSome-from c.tail n h;
    })
    cs held.tails)

-- the words of a tail that is cut off are short
pub last-short : (old new : List StageView) (s : SequenceView) (last : StageView) (min max : ℕ) → s.position ≡ position.Eof min max
    → new ++ last ∷ [] ≡ old ++ stages_of None [] s.items → IsSequence s → span last.items ≤ 65535
last-short old new s last min max at same is =
    let P : Position → Type 0 = λ p. IsSequence (record { position = p; items = s.items }) → span (last_items (stages_of None [] s.items)) ≤ 65535 in
    let few : P (position.Eof min max) = λ given. omega (arith, tail-short (position.Eof min max) s.items given) in
    rw (last_is old new last s.items same).1 (subst P (sym at) few is)
