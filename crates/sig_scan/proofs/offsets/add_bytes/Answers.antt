use Rattle.sig_scan.proofs.Common.{arith}
use Rattle.sig_scan.proofs.MarkLemmas.{HasBit-ones}
use Rattle.sig_scan.proofs.offsets.add_bytes.Goals as goal

pub loop-k-preserved : goal.loop-k-preserved
loop-k-preserved c j = grind (arith, HasBit-ones c.loop-k.set c.loop-k.k j, c.loop-k.invariant j)
