use Rattle.std.proofs.Common.{subst, sym, List}
use Rattle.sig_expr.specs.declared.item.Item.{Item}
use Rattle.sig_expr.specs.Words.{Lang}
use Rattle.sig_match.specs.Frontiers.{HasExactly, IsIn, Reaches}
use Rattle.sig_match.proofs.LangLemmas.{HasExactly-run}
use Rattle.sig_match.proofs.whole.advance.advance.Goals as goal

pub returns-clause-ends : goal.returns-clause-ends
returns-clause-ends c =
    let P : List Item → Type 0 = λ l. HasExactly (Reaches (Lang l) c.args.file.now (IsIn c.args.frontier.now)) c.after_run.new.ends.items in
    subst P (sym c.requires.run.bytes) (HasExactly-run c.args.run.now c.args.file.now (IsIn c.args.frontier.now) c.after_run.new.ends.items
    c.in_ok-after_run.ensures)
