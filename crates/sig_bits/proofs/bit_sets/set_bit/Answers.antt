use Rattle.sig_bits.proofs.BitLemmas.{HasBit-set}
use Rattle.sig_bits.proofs.bit_sets.set_bit.Goals as goal

pub returns : goal.returns
returns c = λ j. HasBit-set c.args.bits.now c.args.i j c.requires
