use Rattle.std.proofs.Common.{drop}
use Rattle.hex.specs.Hex.{encode_upper}
use Rattle.sig_expr.specs.Writing.{IsLeft}
use Rattle.sig_expr.proofs.printer.put_word.Given as goal

-- what writes the rest from here has written all
abbrev pub invariant-loop-byte : goal.invariant-loop-byte
invariant-loop-byte g l =
    IsLeft g.W.Output.failed g.W.Output.limit g.W.Output.written l.initial.out (encode_upper l.byte-items) l.out (encode_upper (drop l.byte-index l.byte-items))
