use Rattle.std.proofs.Common.{◌*◌, ◌<◌, length, arith}
use Rattle.sig_bits.specs.ByteClasses.{Holds}
use Rattle.sig_bits.proofs.BitLemmas.{HasBit-within, zeros_have_no_bit}
use Rattle.sig_bits.proofs.byte_class.ByteClass.is_empty.Goals as goal

pub returns : goal.returns
unfolding Holds
returns c = (
  λ t b within h. zeros_have_no_bit 32 b (c.subset.ensures.0 t b h),
  λ none. c.subset.ensures.1 (λ i h. let within : i < 8 * length c.args.self.now.bits = HasBit-within c.args.self.now.bits i h in
      absurd (none i (omega arith) h)),
)
