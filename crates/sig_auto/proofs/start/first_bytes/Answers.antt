use Rattle.sig_auto.proofs.Common.{◌∙◌, sym}
use Rattle.sig_auto.proofs.BeginLemmas.{first_answer, before_answer}
use Rattle.sig_auto.proofs.start.first_bytes.Goals as goal

pub returns-then-has_bytes_before : goal.returns-then-has_bytes_before
returns-then-has_bytes_before c b small =
    before_answer c.args.sequence.now c.position.result b c.position.ensures c.expr-expr.ensures.sequence small
    (c.has_bytes_before.ensures.0 c.if-has_bytes_before.true) (c.all.ensures b small)

pub returns-in-Some : goal.returns-in-Some
returns-in-Some c b small =
    first_answer c.args.sequence.now c.position.result c.in-Some.item.now _ c.has_bytes_before.result b c.position.ensures
    (sym c.expr-expr.ensures.items ∙ sym c.items.ensures.items ∙ c.in-Some.ensures.cases.0) c.expr-expr.ensures.sequence small c.has_bytes_before.ensures
    c.if-has_bytes_before.false (c.bytes_of_item.ensures b small)
