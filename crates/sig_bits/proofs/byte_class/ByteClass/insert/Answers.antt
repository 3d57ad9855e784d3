use Rattle.sig_bits.specs.ByteClasses.{Holds}
use Rattle.sig_bits.proofs.byte_class.ByteClass.insert.Goals as goal

pub returns : goal.returns
unfolding Holds
returns c = c.set_bit.ensures
