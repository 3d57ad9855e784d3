use Rattle.std.proofs.Common.{drop}
use Rattle.sig_expr.specs.Canon.{alternative_text}
use Rattle.sig_expr.specs.Writing.{IsLeft}
use Rattle.sig_expr.proofs.printer.put_alternative.Given as goal

-- what writes the rest from here has written all
abbrev pub invariant-loop-atom : goal.invariant-loop-atom
invariant-loop-atom g l =
    IsLeft g.W.Output.failed g.W.Output.limit g.W.Output.written l.initial.out (alternative_text l.alternative) l.out
    (alternative_text (drop l.atom-index l.alternative))
