use Rattle.std.proofs.Common.{◌≡◌, ◌∙◌, length, sym, ap, refl, inl, inr}
use Rattle.std.proofs.lemmas.List.{with_items_is}
use Rattle.sig_table.proofs.BelowLemmas.{no_fault, pushed}
use Rattle.sig_table.proofs.PriorityLemmas.{one_priority_more}
use Rattle.sig_table.proofs.ranking.Ranking.insert.Goals as goal

pub invariant_of-result : goal.invariant_of-result
invariant_of-result c =
    let pairs = c.self.inside.pairs.keys in
    let fine = no_fault pairs c.requires.judged.0 c.args.pair (rw (← c.self.view_is) at c.requires.judged.1) in
    let new = fine.0 in
    let keys = pushed c.insert.result pairs c.insert.new.self.keys c.args.pair (sym c.is_err.ensures.value ∙ c.if-is_err.false) c.insert.ensures.keys new in
    let long : length c.extend_below.new.below ≡ length c.self.inside.below.items = c.extend_below.auto.below ∙ ap length c.deref_mut.ensures.value in
    let items = with_items_is c.self.inside.below c.extend_below.new.below (long ∙ sym c.self.inside.below.ok.0) in
    let higher = rw (← c.self.view_is) at c.requires.higher in
    let lower = rw (← c.self.view_is) at c.requires.lower in
    record {
      few = rw (items, long) c.self.invariant.few;
      priorities = rw (keys, items, long) (one_priority_more (length c.self.inside.below.items) pairs c.args.pair c.self.invariant.priorities (higher, lower)
          new (λ up. elim up [ inl same ↦ c.requires.other (sym same) | inr way ↦ fine.1 way ]));
      below = rw (keys, items) (rw (c.higher.ensures, c.lower.ensures) at c.extend_below.ensures pairs (rw c.deref_mut.ensures.value c.self.invariant.below));
    }

pub returns : goal.returns
returns c =
    let pairs = c.self.inside.pairs.keys in
    let fine = no_fault pairs c.requires.judged.0 c.args.pair (rw (← c.self.view_is) at c.requires.judged.1) in
    let new = fine.0 in
    let keys = pushed c.insert.result pairs c.insert.new.self.keys c.args.pair (sym c.is_err.ensures.value ∙ c.if-is_err.false) c.insert.ensures.keys new in
    let long : length c.extend_below.new.below ≡ length c.self.inside.below.items = c.extend_below.auto.below ∙ ap length c.deref_mut.ensures.value in
    let items = with_items_is c.self.inside.below c.extend_below.new.below (long ∙ sym c.self.inside.below.ok.0) in
    rw (← c.self.view_is) (rw (keys, items, long) refl)
