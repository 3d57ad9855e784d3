use Rattle.std.proofs.Common.{⊎_elim, inl}
use Rattle.sig_bits.specs.ByteClasses.{Holds}
use Rattle.sig_bits.proofs.BitLemmas.{zeros_have_no_bit}
use Rattle.sig_bits.proofs.byte_class.ByteClass.of_byte.Goals as goal

pub returns : goal.returns
unfolding Holds
returns c = λ b. (λ h. ⊎_elim (λ e. e) (λ had. absurd (zeros_have_no_bit 32 b had)) ((c.set_bit.ensures b).0 h), λ e. (c.set_bit.ensures b).1 (inl e))
