use Rattle.sig_bits.proofs.BitLaws.{same_bits_are_same_bytes}
use Rattle.sig_bits.proofs.laws.same_bits_are_same_bytes.Goals as goal

pub returns : goal.returns
returns c = same_bits_are_same_bytes
