use Rattle.std.proofs.Common.{sym}
use Rattle.sig_table.proofs.BelowLemmas.{same_answer}
use Rattle.sig_table.proofs.RankingLemmas.{is_above-Decides}
use Rattle.sig_table.specs.RankingViews.{AreBelow}
use Rattle.sig_table.proofs.ranking.Ranking.is_above.Goals as goal

pub returns : goal.returns
unfolding AreBelow
returns c =
    let higher = c.requires.higher in
    let row = c.self.invariant.below c.args.higher.0 (rw (← c.self.view_is) at higher) c.index.result.now (sym c.index.ensures) c.args.lower.0 in
    rw (← c.self.view_is) (same_answer _ _ c.contains.ensures row (is_above-Decides c.self.inside.pairs.keys c.args.higher.0 c.args.lower.0))
