use Rattle.std.proofs.Common.{arith, rules}
use Rattle.sig_bits.specs.ByteClasses.{Holds}
use Rattle.sig_bits.proofs.BitLemmas.{HasBit-turned}
use Rattle.sig_bits.proofs.byte_class.ByteClass.without.Goals as goal

pub returns : goal.returns
unfolding Holds
returns c = λ b within. HasBit-turned c.loop-byte.byte-items c.args.self.bits (λ k below. c.loop-byte.invariant.turned k (omega arith)) (search rules) b
    (omega arith)
