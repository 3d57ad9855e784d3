use Rattle.sig_auto.proofs.Common.{◌≡◌, ◌↔◌, ◌∙◌, List, ℕ, drop, length, subst, sym, HasBit, EndsAt}
use Rattle.sig_auto.proofs.KeepLemmas.{added_to_none, written}
use Rattle.sig_auto.proofs.auto.accepting_set.Goals as goal

pub returns-clause-ends : goal.returns-clause-ends
returns-clause-ends c p =
    let to = c.add_ends.new.set in
    let long : length to ≡ c.in_ok-set.set.len = c.add_ends.auto.set ∙ c.deref_mut.ensures.len in
    let P : List ℕ → Type 0 = λ l. HasBit l p ↔ EndsAt c.args.cells.now p in
    subst P (sym (written to (drop (length to) c.in_ok-set.set.items) c.in_ok-set.set.len long))
    (added_to_none c.deref_mut.result.now _ p (c.deref_mut.ensures.value ∙ c.in_ok-set.ensures.items_if_clones_equal (λ y h. h)) (c.add_ends.ensures p))
