use Rattle.sig_expr.proofs.DigitLemmas.{decoded_digit}
use Rattle.sig_expr.proofs.lexer.digit.Goals as goal

pub returns-in-Ok : goal.returns-in-Ok
returns-in-Ok c =
    let decoded = decoded_digit c.args.byte c.decode_to_slice.result c.decode_to_slice.new.out (rw c.as_slice.ensures at c.decode_to_slice.ensures.value) in
    rw c.in-Ok.is at decoded

pub returns-in-Err : goal.returns-in-Err
returns-in-Err c =
    let decoded = decoded_digit c.args.byte c.decode_to_slice.result c.decode_to_slice.new.out (rw c.as_slice.ensures at c.decode_to_slice.ensures.value) in
    rw c.in-Err.is at decoded
