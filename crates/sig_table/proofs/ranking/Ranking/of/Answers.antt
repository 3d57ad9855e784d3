use Rattle.std.proofs.Common.{◌≡◌, ℕ, None, ap, get_or, sym, subst}
use Rattle.sig_table.proofs.AddedLemmas.{next_is_fine, next_is_of_two}
use Rattle.sig_table.specs.Loading.{pair_fault}
use Rattle.sig_table.specs.RankingViews.{RankingView}
use Rattle.sig_table.proofs.ranking.Ranking.of.Goals as goal

pub insert-requires-clause-other : goal.insert-requires-clause-other
insert-requires-clause-other c =
    subst (λ (pair : ℕ × ℕ). pair.0 ≡ pair.1 → ⊥) (sym c.pair-item.is)
    (next_is_of_two _ _ c.priorities-pair-items.result.now c.priorities-pair-items.ensures c.format_count.ensures.table.priorities c.loop-pair.pair-index
    c.pair-item.result c.loop-pair-test.true)

pub insert-requires-clause-judged : goal.insert-requires-clause-judged
insert-requires-clause-judged c = (
  0,
  subst (λ (pair : ℕ × ℕ). pair_fault c.loop-pair.ranking.pairs 0 pair ≡ None) (sym c.pair-item.is)
      (subst (λ pairs. pair_fault pairs 0 (get_or c.priorities-pair-items.result.now c.loop-pair.pair-index c.pair-item.result) ≡ None)
      (sym (ap (λ (r : RankingView). r.pairs) c.loop-pair.invariant))
      (next_is_fine _ _ c.priorities-pair-items.result.now c.priorities-pair-items.ensures c.format_count.ensures.table.priorities c.loop-pair.pair-index
      c.pair-item.result c.loop-pair-test.true)),
)
