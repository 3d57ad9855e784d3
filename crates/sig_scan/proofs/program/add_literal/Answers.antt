use Rattle.sig_scan.proofs.Common.{subst, on_ok_weaker, IsLiteralOf, StageView}
use Rattle.sig_scan.proofs.FilterLemmas.{AreLiteralsOf-added}
use Rattle.sig_scan.proofs.program.add_literal.Goals as goal

pub returns : goal.returns
returns c courses stage literals =
    let is = subst (λ (s : StageView). IsLiteralOf s.items c.stage.inside.literal) c.stage.view_is c.stage.invariant in
    on_ok_weaker c.add.result
    (λ adds. AreLiteralsOf-added courses c.args.filter.now c.add.new.self c.stage.inside.literal c.args.stage.now c.args.sequence c.args.done adds is stage
    literals)
    c.add.ensures
