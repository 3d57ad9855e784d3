-- The state in which a sequence waits at the beginning of a file.
use Rattle.sig_scan.proofs.Common.{◌≡◌, ◌∙◌, ℕ, ◌+◌, ◌<◌, inl, inr, List, [], ◌∷◌, ◌++◌, ap, arith, drop, false, get_or, length, length-append, map, Option}
use Rattle.sig_scan.proofs.Common.{None, refl, Some, subst, sym, get_or-append_seam, cases_lt, false≢true, get_or_append_left, nil_from_length}
use Rattle.sig_scan.proofs.Common.{get_or_from_slice_get, slice_get-get_or, slice_get-map, slice_get_within, slice_get, option_map, ◌↔◌, is_some, Item}
use Rattle.sig_scan.proofs.Common.{course_in, AreFirst, CourseView, InTurn, IsFirstEnd, StageView, TailView, Course, State}
use Rattle.sig_scan.specs.Scans.{IsFirst}
use Rattle.sig_scan.proofs.StateLemmas.{stages-next}
use Rattle.sig_scan.proofs.TurnLemmas.{InTurn-first}

-- a stage of no byte ends at the beginning
IsFirstEnd-empty : (file : List ℕ) (delay : ℕ) → IsFirstEnd (record { items = []; until = None; delay = delay }) file 0 0
IsFirstEnd-empty file delay = record {
  ends = record {
    start = 0;
    not_before = omega arith;
    not_behind = tt;
    lies = record { in_order = omega arith; within = omega arith; is_word = refl };
  };
  first = λ other ends. omega arith;
}

-- so what stands in turn stands behind it
InTurn-empty : (file : List ℕ) (s : StageView) (later : List StageView) (tail : Option TailView) → s.items ≡ [] → s.until ≡ None
    → InTurn file 0 (s ∷ later) tail ↔ InTurn file s.delay later tail
InTurn-empty file s later tail none unbounded =
    let first : IsFirstEnd s file 0 0 =
    subst (λ (l : List Item). IsFirstEnd (record { items = l; until = s.until; delay = s.delay }) file 0 0) (sym none)
    (subst (λ (o : Option ℕ). IsFirstEnd (record { items = []; until = o; delay = s.delay }) file 0 0) (sym unbounded) (IsFirstEnd-empty file s.delay)) in
    let sum : 0 + s.delay ≡ s.delay = omega arith in
    subst (λ (n : ℕ). InTurn file 0 (s ∷ later) tail ↔ InTurn file n later tail) sum (InTurn-first file s later tail 0 0 first)

none_from : (o : Option ℕ) → is_some o ≡ false → o ≡ None
none_from None is = refl
none_from (Some n) is = absurd (false≢true (sym is))

pub IsFirst-behind : (c : CourseView) (s : StageView) → c.from ≡ 0 → slice_get c.stages 0 ≡ Some s → length s.items ≡ 0 → is_some s.until ≡ false
    → IsFirst c (record { done = 1; from = s.delay })
IsFirst-behind c s zero at empty unbounded =
    let none = nil_from_length s.items empty in
    let within = slice_get_within c.stages 0 s at in
    let next : c.stages ≡ s ∷ drop 1 c.stages = stages-next c.stages 0 s within (sym (get_or_from_slice_get c.stages 0 s s at)) in
    let P : ℕ → List StageView → Type 0 = λ from l. (file : List ℕ) → InTurn file from l c.tail ↔ InTurn file s.delay (drop 1 c.stages) c.tail in
    record {
      done = omega arith;
      left = subst (λ (n : ℕ). P n c.stages) (sym zero)
          (subst (P 0) (sym next) (λ file. InTurn-empty file s (drop 1 c.stages) c.tail none (none_from s.until unbounded)));
    }

-- the states so far, and that of the next sequence
pub AreFirst-pushed : (stages : List StageView) (cs : List Course) (states : List State) (k : ℕ) (d : Course) (t : State) → length states ≡ k
    → k < length cs → d ≡ get_or cs k d → IsFirst (course_in stages d) t → AreFirst (map (course_in stages) cs) states
    → AreFirst (map (course_in stages) cs) (states ++ t ∷ [])
AreFirst-pushed stages cs states k d t len inside d_is here before i c u course state =
    let all = length-append states (t ∷ []) in
    let within = slice_get_within (states ++ t ∷ []) i u state in
    let now : get_or (states ++ t ∷ []) i u ≡ u = get_or_from_slice_get (states ++ t ∷ []) i u u state in
    elim (cases_lt i k) [
      | inl early ↦ (
          let was : get_or states i u ≡ u = sym (get_or_append_left states (t ∷ []) u i (omega arith)) ∙ now in
          before i c u course (slice_get-get_or states i u (omega arith) ∙ ap (λ (x : State). Some x) was))
      | inr late ↦ (
          let last : i ≡ k = omega arith in
          let t_is : t ≡ u = sym (get_or-append_seam states t [] u) ∙ ap (λ n. get_or (states ++ t ∷ []) n u) (len ∙ sym last) ∙ now in
          let at : slice_get cs k ≡ Some d = slice_get-get_or cs k d inside ∙ ap (λ (x : Course). Some x) (sym d_is) in
          let mapped : option_map (course_in stages) (slice_get cs k) ≡ Some c =
          sym (slice_get-map (course_in stages) cs k) ∙ subst (λ n. slice_get (map (course_in stages) cs) n ≡ Some c) last course in
          let both : Some (course_in stages d) ≡ Some c = ap (option_map (course_in stages)) (sym at) ∙ mapped in
          let is : course_in stages d ≡ c = cc in
          subst (λ (v : CourseView). IsFirst v u) is (subst (IsFirst (course_in stages d)) t_is here))
    ]
