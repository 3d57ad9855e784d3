use Rattle.sig_expr.specs.Canon.{between_text}
use Rattle.sig_expr.proofs.WritingLemmas.{prints_then}
use Rattle.sig_expr.proofs.printer.put_between.Goals as goal

pub returns : goal.returns
unfolding between_text
returns g c =
    prints_then _ _ _ _ _ _ c.in_ok-put.ensures.wrote
    (prints_then _ _ _ _ _ _ c.in_ok-put_number.ensures.wrote
    (prints_then _ _ _ _ _ _ c.in_ok-put-2.ensures.wrote
    (prints_then _ _ _ _ _ _ c.in_ok-put_number-2.ensures.wrote c.put-3.ensures)))
