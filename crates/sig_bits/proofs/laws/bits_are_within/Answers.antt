use Rattle.sig_bits.proofs.BitLaws.{bits_are_within}
use Rattle.sig_bits.proofs.laws.bits_are_within.Goals as goal

pub returns : goal.returns
returns c = bits_are_within
