use Rattle.sig_scan.proofs.Common.{length-chunk, get_or-chunk}
use Rattle.sig_scan.proofs.marks.load.Goals as goal

pub returns : goal.returns
returns c = record { len = length-chunk c.args.from 32 c.args.bytes.now c.requires; each = λ k low. get_or-chunk c.args.from 32 c.args.bytes.now k 0 low }
