use Rattle.sig_auto.proofs.CellLemmas.{comes_behind, within}
use Rattle.sig_auto.proofs.auto.Auto.behind.Goals as goal

pub of-requires-clause-within : goal.of-requires-clause-within
of-requires-clause-within c = within c.self.inside.cells.items _ _ c.args.self.now c.args.p c.self.invariant.spells c.self.view_is c.as_slice.ensures.value
    c.requires

pub returns : goal.returns
returns c = comes_behind c.self.inside.cells.items _ _ c.args.self.now c.args.p c.of.result c.self.invariant.spells c.self.view_is c.as_slice.ensures.value
    c.requires c.of.ensures.is c.of.ensures.order c.of.ensures.cell
