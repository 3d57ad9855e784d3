use Rattle.std.proofs.Common.{slice_index, arith}
use Rattle.sig_bits.proofs.JoinLemmas.{joined_none, joined_more}
use Rattle.sig_bits.proofs.bit_ranges.joined.Goals as goal

pub loop-k-init : goal.loop-k-init
loop-k-init c = joined_none (slice_index c.args.bits.now) c.args.from

pub loop-k-preserved : goal.loop-k-preserved
loop-k-preserved c = joined_more (slice_index c.args.bits.now) c.args.from c.loop-k.k c.loop-k.joined (omega arith) c.loop-k.invariant
