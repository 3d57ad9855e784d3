use Rattle.sig_expr.specs.Canon.{from_text}
use Rattle.sig_expr.proofs.WritingLemmas.{prints_then}
use Rattle.sig_expr.proofs.printer.put_from.Goals as goal

pub returns : goal.returns
unfolding from_text
returns g c = prints_then _ _ _ _ _ _ c.in_ok-put.ensures.wrote (prints_then _ _ _ _ _ _ c.in_ok-put_number.ensures.wrote c.put-2.ensures)
