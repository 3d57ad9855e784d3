use Rattle.sig_scan.proofs.Common.{List, Some, ◌-◌, ◌≡◌, ◌∙◌, ap, arith, get_or, inl, inr, sym, cases_eq, get_or_default, get_or_from_slice_get}
use Rattle.sig_scan.proofs.Common.{slice_get_within, slice_get, list_of, Entry}
use Rattle.sig_scan.proofs.FilterLemmas.{IsEntered-slot, IsPassedAt-lowered}
use Rattle.sig_scan.proofs.filter.Filter.visit.Goals as goal
use Rattle.sig_scan.proofs.filter.Filter.visit.Goals.{then-id-gt0+then-id-len, else-id-gt0, else-id-gt0-via-then-id-gt0+else-id-len}
use Rattle.sig_scan.proofs.filter.Filter.visit.Goals.{else-id-gt0-via-else-id-gt0}

pub loop-slot-preserved : goal.loop-slot-preserved
loop-slot-preserved c =
    let slots = c.self.inside.slots.items in
    let entries = c.self.inside.entries.items in
    let slot = c.loop-slot.slot in
    let size = c.self.invariant.slots_len in
    let value : get_or slots slot 0 ≡ c.index.result.now =
    get_or_default slots slot 0 c.index.result.now (omega (arith, c.list_of-list.ensures.few)) ∙ sym c.index.ensures in
    elim c.if-id-gt0.branch [
      | then-id-gt0+then-id-len w ↦ rw w.found-is (record {
        lowered = λ k. omega (arith, c.loop-slot.invariant.lowered k, w.compare.ensures.lowered k);
        passed = λ j i e low high id at. elim (cases_eq j slot) [
          | inl here ↦ (
              let f = w.index-then-id-len.result.now in
              let place : c.index.result.now - 1 ≡ i = omega (arith, ap (λ n. get_or slots n 0) here) in
              let there : slice_get entries i ≡ Some e = ap (λ (es : List Entry). slice_get es i) c.self.view_is ∙ at in
              let same : f ≡ e = w.index-then-id-len.ensures ∙ ap (λ n. get_or entries n f) place ∙ get_or_from_slice_get entries i e f there in
              rw same at w.compare.ensures.passed)
          | inr other ↦ IsPassedAt-lowered e c.args.bytes.now c.args.states.now c.args.place c.loop-slot.found w.compare.new.found
              w.compare.ensures.lowered (c.loop-slot.invariant.passed j i e low (omega arith) id at)
        ];
      })
      | else-id-gt0 w ↦ rw w.found-is (record {
        lowered = c.loop-slot.invariant.lowered;
        passed = λ j i e low high id at. elim (cases_eq j slot) [
          | inl here ↦ (
              let same = ap (λ n. get_or slots n 0) here in
              let within = slice_get_within entries i e (ap (λ (es : List Entry). slice_get es i) c.self.view_is ∙ at) in
              elim w.else-id-gt0.branch [
                | else-id-gt0-via-then-id-gt0+else-id-len w' ↦ absurd (omega arith)
                | else-id-gt0-via-else-id-gt0 w' ↦ absurd (omega arith)
              ])
          | inr other ↦ c.loop-slot.invariant.passed j i e low (omega arith) id at
        ];
      })
    ]

pub returns-clause-passed : goal.returns-clause-passed
returns-clause-passed c i e at has =
    let entries = c.self.inside.entries.items in
    let here : slice_get entries i ≡ Some e = ap (λ (es : List Entry). slice_get es i) c.self.view_is ∙ at in
    let list = c.list_of-list.ensures.value ∙ ap list_of c.four.ensures in
    IsEntered-slot c.self.inside.marks.items c.self.inside.slots.items entries c.args.bytes.now c.args.place i e c.loop-slot.found c.args.states.now
    c.self.invariant here has (λ slot j f low high id some. c.loop-slot.invariant.passed slot j f (omega arith) (omega arith) id
    (ap (λ (es : List Entry). slice_get es j) (sym c.self.view_is) ∙ some))
