use Rattle.sig_scan.proofs.Common.{List, ℕ, ◌++◌, ◌∷◌, ◌∙◌, [], ap, length, subst, sym, with_items_is, ArePast, CourseView, IsScanOf, State}
use Rattle.sig_scan.proofs.scan.Scan.close.Goals as goal

pub returns-clause-past : goal.returns-clause-past
returns-clause-past c =
    let self = c.self.inside in
    let courses : List CourseView = self.program.now.courses in
    let states : List State = self.states.items in
    let found : List ℕ = c.look.new.found in
    let items = with_items_is self.found found (c.look.auto.found ∙ ap length c.deref_mut.ensures.value ∙ sym self.found.ok.0) in
    let byte = c.with_one_more-bytes.ensures in (
      byte.0,
      subst (ArePast courses states (self.buffer.bytes ++ byte.0 ∷ [])) (sym items)
          (subst (λ (l : List ℕ). ArePast courses states l found) byte.1
          (subst (λ (l : List State). ArePast courses l c.with_one_more-bytes.result.now found) c.deref.ensures.value c.look.ensures)),
    )

pub returns-clause-of : goal.returns-clause-of
returns-clause-of c table file of = subst (IsScanOf table file) (sym c.self.view_is) of
