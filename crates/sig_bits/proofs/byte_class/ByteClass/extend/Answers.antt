use Rattle.sig_bits.specs.ByteClasses.{Holds}
use Rattle.sig_bits.proofs.byte_class.ByteClass.extend.Goals as goal

pub returns : goal.returns
unfolding Holds
returns c = c.or_into.ensures
