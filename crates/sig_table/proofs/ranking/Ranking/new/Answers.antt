use Rattle.std.proofs.Common.{◌≡◌, ◌∙◌, length, sym}
use Rattle.sig_table.proofs.BelowLemmas.{none-below}
use Rattle.sig_table.proofs.PriorityLemmas.{no_priorities}
use Rattle.sig_table.proofs.ranking.Ranking.new.Goals as goal

pub invariant_of-result : goal.invariant_of-result
invariant_of-result c =
    let long : length c.in_ok-below.below.items ≡ c.args.format_count = sym c.in_ok-below.below.ok.0 ∙ c.in_ok-below.ensures.len in
    let few = c.requires in
    rw c.new-2.ensures.empty record {
      few = rw long few;
      priorities = no_priorities (length c.in_ok-below.below.items);
      below = none-below c.args.format_count c.new.result c.in_ok-below.below.items c.new.ensures (c.in_ok-below.ensures.items_if_clones_equal (λ y e. e));
    }
