use Rattle.sig_table.proofs.ranking.Ranking.contains.Goals as goal

pub returns : goal.returns
returns c = rw (← c.self.view_is) c.contains.ensures
