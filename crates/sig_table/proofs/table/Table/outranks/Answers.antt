use Rattle.std.proofs.Common.{sym, ◌∙◌}
use Rattle.std.proofs.lemmas.Bool.Decides.{same_from_decides}
use Rattle.sig_table.proofs.BelowLemmas.{listed-Decides}
use Rattle.sig_table.proofs.PublicLemmas.{ranks-Decides}
use Rattle.sig_table.proofs.table.Table.outranks.Goals as goal

pub returns-clause-listed : goal.returns-clause-listed
returns-clause-listed c =
    let listed = listed-Decides c.self.inside.priorities.keys (c.args.higher.0, c.args.lower.0) in
    let found = rw c.new.ensures at c.contains.ensures in
    rw (← c.self.view_is) (λ t. listed.0 (sym found ∙ t), λ there. found ∙ listed.1 there)

pub returns-clause-test : goal.returns-clause-test
returns-clause-test c = same_from_decides _ _ (returns-clause-listed c) (ranks-Decides c.args.self.now.priorities c.args.higher.0 c.args.lower.0)
