use Rattle.sig_auto.proofs.Common.{sym, ◌∙◌}
use Rattle.sig_auto.proofs.CellSideLemmas.{own_cuts, own_live}
use Rattle.sig_auto.proofs.auto.add_own.Goals as goal

pub returns-then-is_some-clause-live : goal.returns-then-is_some-clause-live
returns-then-is_some-clause-live c = own_live c.args.cells.now c.args.behind.own c.args.behind.cell _ c.args.live.now c.add_class.new.live
    c.requires.ready.lined c.requires.cell (sym c.is_some.ensures ∙ c.if-is_some.true) c.add_class.ensures.live

pub returns-then-is_some-clause-cuts : goal.returns-then-is_some-clause-cuts
returns-then-is_some-clause-cuts c = own_cuts c.args.cells.now c.args.behind.own c.args.behind.cell _ c.args.cuts.now c.add_class.new.cuts
    c.requires.ready.lined c.requires.cell (sym c.is_some.ensures ∙ c.if-is_some.true) c.add_class.ensures.cuts
