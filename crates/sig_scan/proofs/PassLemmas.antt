-- Sequences go on to what the prefilter found.
use Rattle.sig_scan.proofs.Common.{◌≡◌, ◌∙◌, ℕ, ◌+◌, ◌-◌, ◌≤◌, ◌<◌, inl, inr, All, List, [], ◌∷◌, ◌++◌, ap, arith, drop, get_or, length, length-append, map}
use Rattle.sig_scan.proofs.Common.{max, min, Option, Some, subst, sym, take, slice_get, option_map, ◌↔◌, slice_index, slice_range, cases_lt, get_or-drop}
use Rattle.sig_scan.proofs.Common.{get_or-take, length-drop, length-take-le, take_all, get_or_from_slice_get, slice_get-get_or, slice_get-map, slice_get_within}
use Rattle.sig_scan.proofs.Common.{SequenceView, Entry, Course, State, course_in, AreLiteralsOf, AreMissed, IsLiteralOf, LiteralView, StandsAt, ArePast, Lies}
use Rattle.sig_scan.proofs.Common.{InTurnAt, IsShort, WaitsAt, CourseView, StageView, TailView, false}
use Rattle.sig_scan.proofs.AttemptLemmas.{Lies-take}
use Rattle.sig_scan.proofs.LengthLemmas.{Lies-span}
use Rattle.sig_scan.proofs.LiesLemmas.{Lies-seen_both}
use Rattle.sig_scan.proofs.StateLemmas.{Lies-at_hand, Waits-skipped, stages-next}
use Rattle.sig_scan.proofs.TurnLemmas.{InTurn-past}

-- a stage of a course, among all stages
pub slice_get-range : (stages : List StageView) (a b j : ℕ) (u : StageView) → j < b - a → slice_get stages (a + j) ≡ Some u
    → slice_get (slice_range stages a b) j ≡ Some u
slice_get-range stages a b j u few at =
    let inside = slice_get_within stages (a + j) u at in
    let left = length-drop a stages in
    let value : get_or (slice_range stages a b) j u ≡ u =
    get_or-take (b - a) (drop a stages) j u few ∙ get_or-drop a stages j u ∙ get_or_from_slice_get stages (a + j) u u at in
    elim (cases_lt (length (drop a stages)) (b - a)) [
      | inl short ↦ (
          let all = take_all (b - a) (drop a stages) (omega arith) in
          let len = ap length all in
          slice_get-get_or (slice_range stages a b) j u (omega arith) ∙ ap (λ (v : StageView). Some v) value)
      | inr long ↦ (
          let len = length-take-le (b - a) (drop a stages) long in
          slice_get-get_or (slice_range stages a b) j u (omega arith) ∙ ap (λ (v : StageView). Some v) value)
    ]

-- a stage of a course among all, as one of the course
pub stage-of_course : (stages : List StageView) (cs : List Course) (k stage : ℕ) (d : Course) (u : StageView) (c : CourseView) → k < length cs
    → d ≡ get_or cs k d → d.first ≤ stage → stage < d.end → stage < length stages → u ≡ get_or stages stage u
    → slice_get (map (course_in stages) cs) k ≡ Some c → slice_get c.stages (stage - d.first) ≡ Some u
stage-of_course stages cs k stage d u c inside d_is low high within u_is course =
    let at : slice_get cs k ≡ Some d = slice_get-get_or cs k d inside ∙ ap (λ (x : Course). Some x) (sym d_is) in
    let mapped : option_map (course_in stages) (slice_get cs k) ≡ Some c = sym (slice_get-map (course_in stages) cs k) ∙ course in
    let both : Some (course_in stages d) ≡ Some c = ap (option_map (course_in stages)) (sym at) ∙ mapped in
    let is : course_in stages d ≡ c = cc in
    let there : slice_get stages stage ≡ Some u = slice_get-get_or stages stage u within ∙ ap (λ (x : StageView). Some x) (sym u_is) in
    let same : d.first + (stage - d.first) ≡ stage = omega arith in
    subst (λ (v : CourseView). slice_get v.stages (stage - d.first) ≡ Some u) is
    (slice_get-range stages d.first d.end (stage - d.first) u (omega arith) (subst (λ n. slice_get stages n ≡ Some u) (sym same) there))

-- no word of a stage begins where its literal is missed
Lies-missed : (u : StageView) (l : LiteralView) (bytes : List ℕ) (x end : ℕ) → IsLiteralOf u.items l
    → (x + l.at + length l.text < length bytes → ¬ StandsAt l bytes (x + l.at)) → end < length bytes → ¬ Lies u.items bytes x end
Lies-missed u l bytes x end is missed before lies =
    let n : ℕ = length bytes - 1 in
    let len = length-take-le n bytes (omega arith) in
    let there = is.stands (take n bytes) x end (Lies-take u.items bytes n x end (omega arith) (omega arith) lies) in
    let fits = there.within in
    missed (omega arith) (is.stands bytes x end lies)

-- before the offset that was found for a sequence, no word of its stage begins
pub ArePast-missed : (entries : List Entry) (courses : List CourseView) (bytes : List ℕ) (states : List State) (old found : List ℕ)
    → AreLiteralsOf courses entries → AreMissed entries bytes states old found → ArePast courses states bytes old → ArePast courses states bytes found
ArePast-missed entries courses bytes states old found literals missed past k x c t course state low high =
    elim (cases_lt x (slice_index old k)) [
      | inl before ↦ past k x c t course state low before
      | inr behind ↦ (
          let miss = missed k x t state low behind high in
          let e : Entry = miss.1 in
          let here : slice_get courses e.sequence ≡ Some c = ap (slice_get courses) miss.3 ∙ course in
          let stage = literals miss.0 e c miss.2 here in
          let u : StageView = stage.0 in (
            u,
            subst (λ n. slice_get c.stages n ≡ Some u) miss.4 stage.1,
            λ end before. Lies-missed u e.literal bytes x end stage.2 miss.5 before,
          ))
    ]

-- so a sequence goes on to the offset that was found, or the limit
pub Waits-found : (s : SequenceView) (stages : List StageView) (tail : Option TailView) (before bytes : List ℕ) (done from found limit to reach : ℕ)
    → All (IsShort reach) stages → limit + reach ≤ length bytes → to ≡ max from (min found limit)
    → ((x : ℕ) → from ≤ x → x < found
    → (u : StageView) × (slice_get stages done ≡ Some u) × ((end : ℕ) → end < length bytes → ¬ Lies u.items bytes x end))
    → WaitsAt s before bytes from (drop done stages) tail → WaitsAt s before bytes to (drop done stages) tail
Waits-found s stages tail before bytes done from found limit to reach short sight to_is past waits =
    elim (cases_lt from to) [
      | inr none ↦ (let same : from ≡ to = omega arith in subst (λ n. WaitsAt s before bytes n (drop done stages) tail) same waits)
      | inl some ↦ (
          let first = past from (omega arith) (omega arith) in
          let u : StageView = first.0 in
          let inside = slice_get_within stages done u first.1 in
          let value = get_or_from_slice_get stages done u u first.1 in
          let next : drop done stages ≡ u ∷ drop (done + 1) stages = stages-next stages done u inside (sym value) in
          let each : IsShort reach u = subst (IsShort reach) value (short done u inside) in
          let few = each.few in
          let P : List StageView → Type 0 = λ l. WaitsAt s before bytes from l tail → WaitsAt s before bytes to l tail in
          subst P (sym next)
          (Waits-skipped false s u before bytes from to reach (drop (done + 1) stages) tail each (omega arith) (omega arith)
          (λ x end low high at l.
          let here = past x low (omega arith) in
          let same : here.0 ≡ u = (let both : Some here.0 ≡ Some u = sym here.1 ∙ first.1 in cc) in
          let long = Lies-span u.items bytes x end each.bounded l in
          here.2 end (omega arith) (subst (λ (v : StageView). Lies v.items bytes x end) (sym same) l)))
          waits)
    ]

-- at the end of the file, what stands in turn does so from the offset on that was found: with one byte more in sight, each word that
-- ends with the file ends before the last byte
pub InTurn-raised : (stages : List StageView) (tail : Option TailView) (before bytes : List ℕ) (byte done from found to : ℕ) → to ≡ max from found
    → ((x : ℕ) → from ≤ x → x < found → (u : StageView) × (slice_get stages done ≡ Some u)
    × ((end : ℕ) → end < length (bytes ++ byte ∷ []) → ¬ Lies u.items (bytes ++ byte ∷ []) x end))
    → InTurnAt before bytes from (drop done stages) tail ↔ InTurnAt before bytes to (drop done stages) tail
InTurn-raised stages tail before bytes byte done from found to to_is past =
    elim (cases_lt from to) [
      | inr none ↦ (
          let same : from ≡ to = omega arith in
          subst (λ n. InTurnAt before bytes from (drop done stages) tail ↔ InTurnAt before bytes n (drop done stages) tail) same (λ w. w, λ w. w))
      | inl some ↦ (
          let first = past from (omega arith) (omega arith) in
          let u : StageView = first.0 in
          let inside = slice_get_within stages done u first.1 in
          let value = get_or_from_slice_get stages done u u first.1 in
          let next : drop done stages ≡ u ∷ drop (done + 1) stages = stages-next stages done u inside (sym value) in
          let one = length-append bytes (byte ∷ []) in
          let P : List StageView → Type 0 = λ l. InTurnAt before bytes from l tail ↔ InTurnAt before bytes to l tail in
          subst P (sym next)
          (InTurn-past (before ++ bytes) u (drop (done + 1) stages) tail (length before + from) (length before + to) (omega arith)
          (λ start end low high at l.
          let x : ℕ = start - length before in
          let here = past x (omega arith) (omega arith) in
          let same : here.0 ≡ u = (let both : Some here.0 ≡ Some u = sym here.1 ∙ first.1 in cc) in
          let there = Lies-at_hand u.items before bytes start end (omega arith) l in
          let within = there.within in
          let seen = ((Lies-seen_both u.items bytes (byte ∷ []) x (end - length before)).0 there).0 in
          here.2 (end - length before) (omega arith) (subst (λ (v : StageView). Lies v.items (bytes ++ byte ∷ []) x (end - length before)) (sym same) seen))))
    ]
