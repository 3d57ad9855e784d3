use Rattle.std.proofs.Common.{List, sym, subst, ◌∙◌}
use Rattle.sig_expr.specs.declared.item.Item.{Item}
use Rattle.sig_find.specs.Clashes.{StandsFrom}
use Rattle.sig_find.proofs.clash.sequences_clash.Goals as goal

pub returns-in-Some-Some : goal.returns-in-Some-Some
returns-in-Some-Some c = λ clashes file first second.
    let of_x = c.items.ensures.items ∙ c.expr.ensures.items in
    let of_y = c.items-in-Some-Some.ensures.items ∙ c.expr-in-Some-Some.ensures.items in
    let one = c.in-Some-Some.ensures file first in
    let other = c.in-Some-Some.ensures' file second in
    c.fronts_clash.ensures clashes file
    (subst (λ (items : List Item). StandsFrom c.in-Some-Some.a items file) (sym of_x) one)
    (subst (λ (items : List Item). StandsFrom c.in-Some-Some.b items file) (sym of_y) other)
