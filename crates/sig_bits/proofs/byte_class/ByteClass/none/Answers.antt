use Rattle.sig_bits.specs.ByteClasses.{Holds}
use Rattle.sig_bits.proofs.BitLemmas.{zeros_have_no_bit}
use Rattle.sig_bits.proofs.byte_class.ByteClass.none.Goals as goal

pub returns : goal.returns
unfolding Holds
returns c = λ b h. zeros_have_no_bit 32 b h
