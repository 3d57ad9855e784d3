use Rattle.std.proofs.Common.{◌≡◌, true, Some, ap}
use Rattle.std.specs.Fmt.{styled_digits_output}
use Rattle.std.proofs.lemmas.Fmt.{hex_byte}
use Rattle.sig_engines.specs.Judged.{byte_text}
use Rattle.sig_engines.proofs.lines.push_byte.Goals as goal

pub returns : goal.returns
returns c =
    let hex = hex_byte true c.args.byte c.ranges.byte.fits in
    let text : styled_digits_output c.in_radix.result c.laid_out.result ≡ Some (byte_text c.args.byte) =
    rw (c.laid_out.ensures, c.in_radix.ensures) (ap Some hex) in
    rw text at c.in_ok-write.ensures.bytes
