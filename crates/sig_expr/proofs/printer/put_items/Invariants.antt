use Rattle.std.proofs.Common.{drop}
use Rattle.sig_expr.specs.Canon.{canon}
use Rattle.sig_expr.specs.Writing.{IsLeft}
use Rattle.sig_expr.proofs.printer.put_items.Given as goal

-- what writes the rest from here has written all
abbrev pub invariant-loop-item : goal.invariant-loop-item
invariant-loop-item g l =
    IsLeft g.W.Output.failed g.W.Output.limit g.W.Output.written l.initial.out (canon l.items) l.out (canon (drop l.item-index l.items))
