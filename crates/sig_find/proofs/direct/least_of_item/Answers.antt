use Rattle.std.proofs.Common.{subst}
use Rattle.sig_expr.specs.declared.item.Item.{Item}
use Rattle.sig_expr.specs.Words.{Word}
use Rattle.sig_find.proofs.LengthLemmas.{alternatives_least}
use Rattle.sig_find.proofs.direct.least_of_item.Goals as goal

pub returns-in-Alt : goal.returns-in-Alt
returns-in-Alt c w word =
    alternatives_least c.in-Alt.alternatives c.least_of_alternatives.result c.least_of_alternatives.ensures w (subst (λ (i : Item). Word i w) c.in-Alt.is word)
