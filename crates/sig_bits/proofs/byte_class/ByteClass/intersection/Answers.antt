use Rattle.std.proofs.Common.{arith}
use Rattle.sig_bits.specs.ByteClasses.{Holds}
use Rattle.sig_bits.proofs.BitLemmas.{HasBit-common}
use Rattle.sig_bits.proofs.byte_class.ByteClass.intersection.Goals as goal

pub returns : goal.returns
unfolding Holds
returns c = HasBit-common c.loop-i.bits c.args.self.bits c.args.other.bits (omega arith) (omega arith) (λ k within. c.loop-i.invariant.common k (omega arith))
