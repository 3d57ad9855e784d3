use Rattle.sig_bits.proofs.BitLaws.{zeros_have_no_bit}
use Rattle.sig_bits.proofs.laws.zeros_have_no_bit.Goals as goal

pub returns : goal.returns
returns c = zeros_have_no_bit
