use Rattle.sig_scan.proofs.Common.{◌≡◌, ◌∙◌, ◌+◌, ◌≤◌, List, Some, ℕ, ap, arith, length, subst, take, length-take-le, slice_get, AreOwned, IsFilter, Entry}
use Rattle.sig_scan.proofs.FilterLemmas.{AreLowered-twice, AreMissed-last, AreOwned-lowered, ArePassedBelow-first, ArePassedBelow-next, IsPassedAt-lowered}
use Rattle.sig_scan.proofs.filter.Filter.look.Goals as goal
use Rattle.sig_scan.proofs.filter.Filter.look.Goals.{then-place-gt0, else-place-gt0}

-- the four bytes of each entry are in its literal
windows : (marks slots : List ℕ) (entries all : List Entry) → IsFilter marks slots entries → entries ≡ all → (i : ℕ) (e : Entry) → slice_get all i ≡ Some e
    → e.window + 4 ≤ length e.literal.text
windows marks slots entries all filter same i e at = (filter.each i e (ap (λ (es : List Entry). slice_get es i) same ∙ at)).inside

pub places-init : goal.places-init
places-init c = record {
  even = c.next_listed-place.ensures.place.even;
  few = c.next_listed-place.ensures.place.few;
  owned = subst (λ (es : List Entry). AreOwned es c.args.states.now (length c.args.bytes.now) c.begin-end.result c.args.found.now c.begin-end.new.found)
      (c.deref.ensures.value ∙ c.self.view_is) c.begin-end.ensures.owned;
  passed = ArePassedBelow-first c.args.self.now (take c.begin-end.result c.args.bytes.now) c.args.states.now c.next_listed-place.result c.begin-end.new.found
      (windows c.self.inside.marks.items c.self.inside.slots.items c.self.inside.entries.items c.args.self.now c.self.invariant c.self.view_is)
      c.next_listed-place.ensures.passed;
}

pub places-preserved : goal.places-preserved
places-preserved c =
    let entries = c.args.self.now in
    let bytes = take c.begin-end.result c.args.bytes.now in
    let states = c.args.states.now in
    let place = c.places.place in
    let next = c.next_listed-place-in-places in
    let old = c.places.found in
    let inside = windows c.self.inside.marks.items c.self.inside.slots.items c.self.inside.entries.items entries c.self.invariant c.self.view_is in
    elim c.if-place-gt0.branch [
      | then-place-gt0 w ↦ (
          let new = w.visit-then-place-gt0.new.found in
          let lower = AreLowered-twice old c.visit.new.found new c.visit.ensures.lowered w.visit-then-place-gt0.ensures.lowered in
          rw w.found-is (record {
            even = next.ensures.place.even;
            few = next.ensures.place.few;
            owned = AreOwned-lowered entries states (length c.args.bytes.now) c.begin-end.result c.args.found.now old new lower c.places.invariant.owned;
            passed = ArePassedBelow-next entries bytes states place next.result old new lower
                (λ i e at has. IsPassedAt-lowered e bytes states place c.visit.new.found new w.visit-then-place-gt0.ensures.lowered
                (c.visit.ensures.passed i e at has))
                (λ i e some at has. w.visit-then-place-gt0.ensures.passed i e at has) inside next.ensures.passed c.places.invariant.passed;
          }))
      | else-place-gt0 w ↦ rw w.found-is (record {
        even = next.ensures.place.even;
        few = next.ensures.place.few;
        owned = AreOwned-lowered entries states (length c.args.bytes.now) c.begin-end.result c.args.found.now old c.visit.new.found c.visit.ensures.lowered
            c.places.invariant.owned;
        passed = ArePassedBelow-next entries bytes states place next.result old c.visit.new.found c.visit.ensures.lowered c.visit.ensures.passed
            (λ i e some at has. absurd (omega (arith, w.if-place-gt0.false))) inside next.ensures.passed c.places.invariant.passed;
      })
    ]

pub returns : goal.returns
returns c =
    let len = length-take-le c.begin-end.result c.args.bytes.now c.begin-end.ensures.within in
    AreMissed-last c.args.self.now c.args.bytes.now c.args.states.now c.places.place c.begin-end.result c.args.found.now c.places.found
    (windows c.self.inside.marks.items c.self.inside.slots.items c.self.inside.entries.items c.args.self.now c.self.invariant c.self.view_is)
    c.begin-end.ensures.within (omega arith) c.places.invariant.owned c.places.invariant.passed
