use Rattle.std.proofs.Common.{arith}
use Rattle.sig_bits.specs.ByteClasses.{Holds}
use Rattle.sig_bits.proofs.BitLemmas.{every_bit_in_ones}
use Rattle.sig_bits.proofs.byte_class.ByteClass.all.Goals as goal

pub returns : goal.returns
unfolding Holds
returns c = λ b small. every_bit_in_ones 32 b (omega arith)
