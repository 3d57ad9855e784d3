use Rattle.sig_auto.proofs.Common.{◌↔◌, subst, InClass, Holds}
use Rattle.sig_auto.proofs.CellLemmas.{class_told, within}
use Rattle.sig_auto.proofs.auto.Auto.class.Goals as goal

pub find-k-requires-clause-within : goal.find-k-requires-clause-within
find-k-requires-clause-within c = within c.self.inside.cells.items _ _ c.args.self.now c.args.q c.self.invariant.spells c.self.view_is c.as_slice.ensures.value
    c.requires.within

pub returns : goal.returns
returns c b small =
    let is = class_told c.self.inside.cells.items _ _ c.args.self.now c.args.q c.find-k.result _ c.self.invariant.spells c.self.view_is c.as_slice.ensures.value
    c.index.ensures c.find-k.ensures in
    subst (λ class. Holds c.bytes.result b ↔ InClass class b) is (c.bytes.ensures b small)
