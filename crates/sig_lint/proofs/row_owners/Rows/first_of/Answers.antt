use Rattle.std.proofs.Common.{ℕ, Global, Vec, ap, ◌∙◌}
use Rattle.sig_table.specs.Rows.{is_word}
use Rattle.sig_lint.specs.EqualRows.{RowsView, first_of}
use Rattle.sig_lint.proofs.EqualRowsLemmas.{lookup-texts}
use Rattle.sig_lint.proofs.row_owners.Rows.first_of.Goals as goal

pub returns : goal.returns
returns c =
    c.copied.ensures ∙ c.get.ensures.value ∙ lookup-texts (λ (v : Vec ℕ Global). v.items) (is_word c.args.text.now) c.self.inside.firsts.entries
    ∙ ap (λ (r : RowsView). first_of r.firsts c.args.text.now) c.self.view_is
