use Rattle.sig_auto.proofs.Common.{◌∙◌}
use Rattle.sig_auto.proofs.BeginLemmas.{accepts_ends, accepts_items}
use Rattle.sig_auto.proofs.start.accepts_empty.Goals as goal

pub returns-then-is_at_both_ends : goal.returns-then-is_at_both_ends
returns-then-is_at_both_ends c =
    accepts_items c.args.sequence.now c.position-position.result c.items.result.now c.is_at_both_ends.result c.are_nullable.result c.position-position.ensures
    (c.items.ensures.items ∙ c.expr-expr.ensures.items) c.expr-expr.ensures.sequence c.is_at_both_ends.ensures c.if-is_at_both_ends.true
    c.are_nullable.ensures

pub returns-else-is_at_both_ends : goal.returns-else-is_at_both_ends
returns-else-is_at_both_ends c =
    accepts_ends c.args.sequence.now c.position-position.result c.is_at_both_ends.result c.position-position.ensures c.expr-expr.ensures.sequence
    c.is_at_both_ends.ensures c.if-is_at_both_ends.false
