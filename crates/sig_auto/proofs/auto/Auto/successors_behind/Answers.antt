use Rattle.sig_auto.proofs.CellLemmas.{cell_there, spelled_are}
use Rattle.sig_auto.proofs.CellSuccessorLemmas.{followers_told}
use Rattle.sig_auto.proofs.auto.Auto.successors_behind.Goals as goal

pub own_on-requires-clause-cell : goal.own_on-requires-clause-cell
own_on-requires-clause-cell c = cell_there c.as_slice-cells.result.now c.args.self.now c.requires.0 c.args.behind
    (spelled_are c.self.inside.cells.items _ _ _ c.self.invariant.spells c.self.view_is c.as_slice-cells.ensures.value) c.requires.1

pub returns : goal.returns
returns c = record {
  list = followers_told c.as_slice-cells.result.now c.args.self.now c.args.behind c.own_on.result c.args.byte
      (spelled_are c.self.inside.cells.items _ _ _ c.self.invariant.spells c.self.view_is c.as_slice-cells.ensures.value) c.own_on.ensures;
}
