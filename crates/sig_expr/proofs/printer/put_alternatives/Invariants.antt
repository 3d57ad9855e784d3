use Rattle.std.proofs.Common.{[], ◌∷◌, drop, map}
use Rattle.sig_expr.specs.Canon.{alternatives_text}
use Rattle.sig_expr.specs.Writing.{IsLeft}
use Rattle.sig_expr.proofs.printer.put_alternatives.Given as goal

-- what writes the rest from here has written all
abbrev pub invariant-loop-alternative : goal.invariant-loop-alternative
invariant-loop-alternative g l =
    IsLeft g.W.Output.failed g.W.Output.limit g.W.Output.written l.initial.out (alternatives_text (40 ∷ []) (map (λ v. v.items) l.alternatives)) l.out
    (alternatives_text (l.sign ∷ []) (map (λ v. v.items) (drop l.alternative-index l.alternatives)))
