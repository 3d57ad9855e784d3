use Rattle.sig_expr.specs.Canon.{canon}
use Rattle.sig_expr.specs.Writing.{Printed, sink_of}
use Rattle.sig_expr.proofs.WritingLemmas.{printed_says}
use Rattle.sig_expr.proofs.CanonLemmas.{canon-some}
use Rattle.sig_expr.proofs.printer.print.Goals as goal

pub returns : goal.returns
returns g c =
    let some = canon-some c.args.expr.now c.items.ensures.expression.some in
    let to = sink_of g.W.Output.failed g.W.Output.limit g.W.Output.written in
    let printed : Printed (to c.args.out.now) (canon c.args.expr.now) c.put_items.result (to c.put_items.new.out) =
    rw (← c.items.ensures.items) c.put_items.ensures in
    let says = printed_says _ _ _ _ some printed in
    record { fails = says.fails; stays_failed = says.stays_failed; lowers = says.lowers; adds = says.adds }
