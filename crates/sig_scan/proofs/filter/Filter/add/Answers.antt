use Rattle.sig_scan.proofs.Common.{◌≡◌, ◌∙◌, ◌+◌, drop, length, rules, subst, sym, take_at, IsEntered, IsListed, behind_of, text_of, LiteralView}
use Rattle.sig_scan.proofs.FilterLemmas.{IsFilter-added, IsFilter-kept}
use Rattle.sig_scan.proofs.filter.Filter.add.Goals as goal

pub invariant_of-self : goal.invariant_of-self
invariant_of-self c =
    let marks = c.self.inside.marks in
    let slots = c.self.inside.slots in
    let new_m = c.enter_all.new.marks in
    let new_s = c.enter_all.new.slots in
    let back_m = take_at new_m (drop (length new_m) marks.items) marks.len (c.enter_all.auto.marks ∙ c.deref_mut.ensures.len) in
    let back_s = take_at new_s (drop (length new_s) slots.items) slots.len (c.enter_all.auto.slots ∙ c.deref_mut-2.ensures.len) in
    let kept = rw (c.deref_mut.ensures.value, c.deref_mut-2.ensures.value) at c.enter_all.ensures.kept in
    rw (back_m, back_s) (IsFilter-kept marks.items slots.items new_m new_s c.self.inside.entries.items kept c.self.invariant)

pub invariant_of-self-in_err-push : goal.invariant_of-self-in_err-push
invariant_of-self-in_err-push c =
    let marks = c.self.inside.marks in
    let slots = c.self.inside.slots in
    let new_m = c.enter_all.new.marks in
    let new_s = c.enter_all.new.slots in
    let back_m = take_at new_m (drop (length new_m) marks.items) marks.len (c.enter_all.auto.marks ∙ c.deref_mut.ensures.len) in
    let back_s = take_at new_s (drop (length new_s) slots.items) slots.len (c.enter_all.auto.slots ∙ c.deref_mut-2.ensures.len) in
    let kept = rw (c.deref_mut.ensures.value, c.deref_mut-2.ensures.value) at c.enter_all.ensures.kept in
    rw (c.in_err-push.ensures.items, back_m, back_s)
    (IsFilter-kept marks.items slots.items new_m new_s c.self.inside.entries.items kept c.self.invariant)

pub invariant_of-self-2 : goal.invariant_of-self-2
invariant_of-self-2 c =
    let marks = c.self.inside.marks in
    let slots = c.self.inside.slots in
    let entries = c.self.inside.entries.items in
    let new_m = c.enter_all.new.marks in
    let new_s = c.enter_all.new.slots in
    let back_m = take_at new_m (drop (length new_m) marks.items) marks.len (c.enter_all.auto.marks ∙ c.deref_mut.ensures.len) in
    let back_s = take_at new_s (drop (length new_s) slots.items) slots.len (c.enter_all.auto.slots ∙ c.deref_mut-2.ensures.len) in
    let kept = rw (c.deref_mut.ensures.value, c.deref_mut-2.ensures.value) at c.enter_all.ensures.kept in
    let w = c.window_of-window.result in
    let l : LiteralView = c.args.literal.now in
    let count : c.len-place.result ≡ length entries = search rules in
    let Of : LiteralView → Type 0 = λ x. IsEntered new_m new_s (length entries)
    (record { literal = x; window = w; until = c.args.until; signature = c.args.signature; sequence = c.args.sequence; done = c.args.done }) in
    let is : Of c.copy.result = subst Of (sym c.copy.ensures) (record {
      inside = c.window_of-window.ensures.inside;
      each = λ n few. subst (λ k. IsListed new_m new_s (k + 1) (text_of l w n) (behind_of l w n)) count
          (c.enter_all.ensures.listed c.if-not-enter_all.false n few);
    }) in
    rw (c.in_ok-push.ensures.items, back_m, back_s)
    (IsFilter-added new_m new_s entries _ (IsFilter-kept marks.items slots.items new_m new_s entries kept c.self.invariant) is)
