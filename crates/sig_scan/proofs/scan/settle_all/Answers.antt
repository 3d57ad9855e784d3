use Rattle.sig_scan.proofs.Common.{arith, refl, ◌++◌, ◌+◌, ◌<◌, ◌∙◌, ◌≡◌, ◌≤◌, All, Bool, List, Some, ap, drop, false, get_or, length, not, subst, sym, true, ℕ}
use Rattle.sig_scan.proofs.Common.{set, slice_get-get_or, slice_get_within, slice_get, slice_get-within, SequenceView, TableView, AreDone, AreExcluded, IsBase}
use Rattle.sig_scan.proofs.Common.{IsShort, IsShortCourse, Knows, NeverStands, WaitsAt, WaitsOn, CourseView, StageView, State}
use Rattle.sig_scan.proofs.PassLemmas.{Waits-found}
use Rattle.sig_scan.proofs.ScanLemmas.{All-at, AllMoved, AllMoved-set, AllMoved-skip, AreDone-set, AreExcluded-set, Knows-settled, Waits-rest}
use Rattle.sig_scan.proofs.ScanLemmas.{slice_get-set_other, true_from_not}
use Rattle.sig_scan.proofs.scan.settle_all.Goals as goal
use Rattle.sig_scan.proofs.scan.settle_all.Goals.{then-may_hit-signature, else-may_hit-signature}

pub loop-k-init : goal.loop-k-init
loop-k-init c = record {
  room = refl;
  done = c.requires.ready.done;
  kept = λ i low. refl;
  settled = λ table file known. (
    λ i g s course t owner may sequence at state. (λ near. absurd (omega arith), λ far. known.wait i g s course t owner may sequence at state),
    known.excluded,
  );
}

pub settle-settled-requires-clause-done : goal.settle-settled-requires-clause-done
settle-settled-requires-clause-done c =
    let k = c.loop-k.k in
    let states = c.loop-k.states in
    let courses = c.args.program.now.courses in
    let total = c.sequence_count-k-end.ensures.courses in
    let count = c.requires.ready.count in
    let kept = c.loop-k.auto.states in
    let within : k < length states = omega arith in
    let course = slice_get-within courses k (omega arith) in
    let state = slice_get-get_or states k (record { done = 0; from = 0 }) within in
    let done = c.loop-k.invariant.done k course.0 _ course.1 state in
    rw (c.stages_of-stages.ensures course.0 course.1) done

pub loop-k-preserved : goal.loop-k-preserved
loop-k-preserved c =
    let k = c.loop-k.k in
    let program = c.args.program.now in
    let courses = program.courses in
    let bytes = c.args.site.bytes.now in
    let base = c.args.site.base in
    let limit = c.args.site.limit in
    let reach = c.args.site.reach in
    let states = c.loop-k.states in
    let flags = c.loop-k.may_hit in
    let own = c.signature_of-signature.result in
    let owner : slice_get program.owners k ≡ Some own = c.signature_of-signature.ensures in
    let total = c.sequence_count-k-end.ensures.courses in
    let count = c.requires.ready.count in
    let kept = c.loop-k.auto.states in
    let sight = c.requires.ready.sight in
    let within : k < length states = omega arith in
    let long = c.loop-k.auto.may_hit in
    let below = All-at (λ g. g < length c.args.may_hit.now) program.owners k own owner c.requires.ready.owners in
    let inside : own < length flags = omega arith in
    let Now : List State → List Bool → Type 0 = λ ts l. AreDone courses ts × ((i : ℕ) → k + 1 ≤ i → slice_get ts i ≡ slice_get c.args.states.now i)
    × ((table : TableView) (file : List ℕ) (known : Knows table file program reach base bytes c.args.states.now c.args.may_hit.now)
    → AllMoved (k + 1) limit known.sequences program l known.before bytes ts × AreExcluded table l file) in
    let now : Now c.if-may_hit-signature.states c.if-may_hit-signature.may_hit × (c.if-may_hit-signature.frontier ≡ c.args.frontier.now) =
    elim c.if-may_hit-signature.branch [
      | then-may_hit-signature w ↦ (
          let may : slice_get flags own ≡ Some true = slice_get-get_or flags own false inside ∙ ap (λ (b : Bool). Some b) w.if-may_hit-signature.true in
          let old : State = get_or states k (record { done = 0; from = 0 }) in
          let at : slice_get states k ≡ Some old = slice_get-get_or states k (record { done = 0; from = 0 }) within in
          let first = sym (c.loop-k.invariant.kept k (omega arith)) ∙ at in
          let next : State = w.settle-settled.result in
          let v : State = record { done = next.done; from = w.saturating_sub.result } in
          let b : Bool = not w.is_past.result in
          let on : (before : List ℕ) → IsBase before base → (s : SequenceView) (course : CourseView) → slice_get courses k ≡ Some course
          → WaitsAt s before bytes old.from (drop old.done course.stages) course.tail
          → WaitsAt s before bytes next.from (drop next.done course.stages) course.tail = (
          λ before counted s course here waits.
          let few = All-at (IsShortCourse reach) courses k course here c.requires.ready.held in
          let from = w.max.result in
          let P : List StageView → Type 0 = λ l. All (IsShort reach) l → WaitsAt s before bytes from (drop old.done l) course.tail
          → WaitsAt s before bytes next.from (drop next.done l) course.tail in
          let went = Waits-found s course.stages course.tail before bytes old.done old.from (get_or c.args.found.now k 0) limit from reach few.stages
          (omega arith) (omega arith) (λ x low high. c.requires.past k x course old here first low high) waits in
          let l = w.stages_of-stages.result.now in
          let On : Bool → Type 0 = λ more. All (IsShort reach) l → WaitsOn more s before bytes from (drop old.done l) course.tail
          → WaitsOn more s before bytes next.from (drop next.done l) course.tail in
          subst P (w.stages_of-stages.ensures course here)
          (subst On c.requires.ready.more (λ each u. w.settle-settled.ensures.waits s before course.tail counted each u)) few.stages went) in (
            subst (λ l. Now c.if-may_hit-signature.states l) (sym w.may_hit-is) (subst (λ ts. Now ts (set flags own b)) (sym w.states-is) (
              AreDone-set courses states k v within
                  (λ course here. subst (λ (l : List StageView). next.done ≤ length l) (w.stages_of-stages.ensures course here) w.settle-settled.ensures.done)
                  c.loop-k.invariant.done,
              λ i low.
                  let far : (i ≡ k → ⊥) = λ same. omega arith in
                  slice_get-set_other states k i v far ∙ c.loop-k.invariant.kept i (omega arith),
              λ table file known. (
                  let before = known.before in
                  let was = c.loop-k.invariant.settled table file known in (
                    AllMoved-set k limit own known.sequences program flags before bytes states old v b within inside owner may at
                        (λ _ s course here waits.
                        Waits-rest s course.stages course.tail before bytes next.done next.from limit w.saturating_sub.result reach
                        (All-at (IsShortCourse reach) courses k course here c.requires.ready.held).tail (omega arith) w.saturating_sub.ensures
                        (subst (λ (l : List StageView). next.done < length l → limit ≤ next.from) (w.stages_of-stages.ensures course here)
                        w.settle-settled.ensures.settled)
                        (on before known.counted s course here waits))
                        was.0,
                    AreExcluded-set table flags file own b inside
                        (λ out h signature more are hits.
                        let course = slice_get-within courses k (omega arith) in
                        let many = known.are.count in
                        let low = slice_get_within program.owners k own owner in
                        let s = slice_get-within known.sequences k (omega arith) in
                        let waits = (was.0 k own s.0 course.0 old owner may s.1 course.1 at).1 (omega arith) in
                        let there = subst (λ (l : List StageView). WaitsAt s.0 before bytes next.from (drop next.done l) course.0.tail)
                        (sym (w.stages_of-stages.ensures course.0 course.1)) (on before known.counted s.0 course.0 course.1 waits) in
                        let never = w.is_past.ensures.never (true_from_not w.is_past.result out) s.0 before bytes course.0.tail known.counted there in
                        subst (NeverStands s.0) (sym known.cut) never more are (known.are.needed k own s.0 h owner s.1 signature (file ++ more) hits))
                        was.1,
                  )),
            )),
            w.frontier-is ∙ w.settle-settled.ensures.room ∙ c.loop-k.invariant.room,
          ))
      | else-may_hit-signature w ↦ (
          let never : slice_get flags own ≡ Some false = slice_get-get_or flags own false inside ∙ ap (λ (b : Bool). Some b) w.if-may_hit-signature.false in (
            subst (λ l. Now c.if-may_hit-signature.states l) (sym w.may_hit-is) (subst (λ ts. Now ts flags) (sym w.states-is) (
              c.loop-k.invariant.done,
              λ i low. c.loop-k.invariant.kept i (omega arith),
              λ table file known. (
                  let was = c.loop-k.invariant.settled table file known in
                  (AllMoved-skip k limit own known.sequences program flags known.before bytes states owner never was.0, was.1)),
            )),
            w.frontier-is ∙ c.loop-k.invariant.room,
          ))
    ] in
    record { room = now.1; done = now.0.0; kept = now.0.1; settled = now.0.2 }

pub returns-clause-settled : goal.returns-clause-settled
returns-clause-settled c table file known =
    let program = c.args.program.now in
    let total = c.sequence_count-k-end.ensures.courses in
    let done = c.loop-k-test.false in
    let all = c.loop-k.invariant.settled table file known in
    Knows-settled table file program c.args.site.reach c.args.site.base c.args.site.limit c.args.site.bytes.now c.args.states.now c.loop-k.states
    c.args.may_hit.now
    c.loop-k.may_hit known c.requires.ready.sight c.loop-k.auto.may_hit
    (λ i g s course t owner may sequence at state.
    let low = slice_get_within program.courses i course at in
    (all.0 i g s course t owner may sequence at state).0 (omega arith))
    all.1
