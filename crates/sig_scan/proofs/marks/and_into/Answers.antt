use Rattle.sig_scan.proofs.Common.{arith}
use Rattle.sig_scan.proofs.ClassLemmas.{HasBit-common}
use Rattle.sig_scan.proofs.marks.and_into.Goals as goal

pub returns : goal.returns
returns c = HasBit-common c.loop-i.dst c.args.dst.now c.args.src.now (omega arith) (omega arith) (λ k within. c.loop-i.invariant.common k (omega arith))
