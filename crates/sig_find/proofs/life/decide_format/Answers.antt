use Rattle.std.proofs.Common.{ap, subst, sym, ◌∙◌}
use Rattle.sig_find.specs.Leaving.{DecidesFormat}
use Rattle.sig_find.specs.Lives.{format_fate}
use Rattle.sig_find.proofs.LifeLemmas.{format_fate_decides, within}
use Rattle.sig_find.proofs.life.decide_format.Goals as goal

pub returns-clause-decides : goal.returns-clause-decides
returns-clause-decides c =
    let is = c.format_fate.ensures ∙ ap format_fate c.deref.ensures.value in
    subst (DecidesFormat c.args.table.now c.args.format.0) (sym is)
    (format_fate_decides c.args.table.now c.args.budget c.args.format.0 c.in_ok-lives.lives.items c.in_ok-lives.ensures)

pub returns-clause-within : goal.returns-clause-within
returns-clause-within c = within c.args.table.now c.args.budget c.args.format.0 c.in_ok-lives.lives.items c.in_ok-lives.ensures
