use Rattle.std.proofs.Common.{[], refl}
use Rattle.sig_table.proofs.AddedLemmas.{are_two, no_fault_behind}
use Rattle.sig_table.proofs.ranking.Ranking.with.Goals as goal

pub insert-requires-clause-other : goal.insert-requires-clause-other
insert-requires-clause-other c = rw c.new.ensures (are_two c.args.self.format_count c.args.self.pairs (c.args.higher.0, c.args.lower.0) c.requires)

pub insert-requires-clause-judged : goal.insert-requires-clause-judged
insert-requires-clause-judged c = (
  0,
  rw c.new.ensures (no_fault_behind c.args.self.format_count _ c.requires 0 c.args.self.pairs [] (c.args.higher.0, c.args.lower.0) refl),
)
