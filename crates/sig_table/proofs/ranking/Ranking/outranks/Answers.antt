use Rattle.std.proofs.Common.{sym, ◌∙◌}
use Rattle.sig_table.proofs.BelowLemmas.{listed-Decides}
use Rattle.sig_table.proofs.ranking.Ranking.outranks.Goals as goal

pub returns : goal.returns
returns c =
    let listed = listed-Decides c.args.self.now.pairs (c.args.higher.0, c.args.lower.0) in
    let found = rw c.new.ensures at c.contains.ensures in
    (λ t. listed.0 (sym found ∙ t), λ there. found ∙ listed.1 there)
