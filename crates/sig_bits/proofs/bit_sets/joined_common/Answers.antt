use Rattle.std.proofs.Common.{arith}
use Rattle.sig_bits.specs.Joined.{common_at}
use Rattle.sig_bits.proofs.JoinLemmas.{joined_none, joined_more}
use Rattle.sig_bits.proofs.bit_sets.joined_common.Goals as goal

pub loop-k-init : goal.loop-k-init
loop-k-init c = joined_none (common_at c.args.a.now c.args.b.now) c.args.from

pub loop-k-preserved : goal.loop-k-preserved
loop-k-preserved c = joined_more (common_at c.args.a.now c.args.b.now) c.args.from c.loop-k.k c.loop-k.joined (omega arith) c.loop-k.invariant
