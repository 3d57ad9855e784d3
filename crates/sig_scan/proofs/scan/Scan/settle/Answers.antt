use Rattle.sig_scan.proofs.Common.{◌≡◌, ◌∙◌, ◌-◌, Bool, List, ℕ, ap, drop, length, subst, sym, with_items, with_items_is, ArePast, BufferView, IsScanOf, Knows}
use Rattle.sig_scan.proofs.Common.{CourseView, State}
use Rattle.sig_scan.proofs.ReadLemmas.{written}
use Rattle.sig_scan.proofs.scan.Scan.settle.Goals as goal

pub settle_all-requires-clause-past : goal.settle_all-requires-clause-past
settle_all-requires-clause-past c =
    let courses : List CourseView = c.self.inside.program.now.courses in
    let bytes : List ℕ = c.as_bytes-bytes.result.now in
    let found : List ℕ = c.look.new.found in
    let same : c.deref-3.result.now ≡ found = c.deref-3.ensures.value ∙ written found _ _ (c.look.auto.found ∙ c.deref_mut.ensures.len) in
    subst (λ (l : List ℕ). ArePast courses c.deref_mut-2.result.now bytes l) (sym same)
    (subst (λ (l : List State). ArePast courses l bytes found) (c.deref.ensures.value ∙ sym c.deref_mut-2.ensures.value) c.look.ensures)

pub returns-clause-settled : goal.returns-clause-settled
returns-clause-settled c table file of =
    let self = c.self.inside in
    let program = self.program.now in
    let keep = self.keep in
    let base = self.base in
    let bytes : List ℕ = self.buffer.bytes in
    let limit : ℕ = length c.as_bytes-bytes.result.now - keep in
    let states : List State = self.states.items in
    let old : List Bool = self.may_hit.items in
    let next : List State = c.settle_all.new.states in
    let new : List Bool = c.settle_all.new.may_hit in
    let was : Knows table file program keep base bytes states old = subst (IsScanOf table file) (sym c.self.view_is) of in
    let Step : List ℕ → List State → List Bool → Type 0 = λ l ts flags. Knows table file program keep base l ts flags
    → Knows table file program keep c.saturating_add-self-inside.result (drop limit l) next new in
    let step : Step bytes states old =
    subst (λ (l : List ℕ). Step l states old) c.as_bytes-bytes.ensures.bytes
    (subst (λ (ts : List State). Step c.as_bytes-bytes.result.now ts old) c.deref_mut-2.ensures.value
    (subst (Step c.as_bytes-bytes.result.now c.deref_mut-2.result.now) c.deref_mut-3.ensures.value
    (rw c.saturating_add-self-inside.ensures (c.settle_all.ensures.settled table file)))) in
    let long : length next ≡ length states = c.settle_all.auto.states ∙ ap length c.deref_mut-2.ensures.value in
    let items = with_items_is self.states next (long ∙ sym self.states.ok.0) in
    let long_flags : length new ≡ length old = c.settle_all.auto.may_hit ∙ ap length c.deref_mut-3.ensures.value in
    let flags = with_items_is self.may_hit new (long_flags ∙ sym self.may_hit.ok.0) in
    let New : BufferView → List State → List Bool → Type 0 = λ b ts fs.
    Knows table file program keep c.saturating_add-self-inside.result b.bytes ts fs in
    subst (λ l. New c.take_off.new.self (with_items self.states next).items l) (sym flags)
    (subst (λ l. New c.take_off.new.self l new) (sym items)
    (subst (λ b. New b next new) (sym c.take_off.ensures) (step was)))
