use Rattle.std.proofs.Common.{bit_and}
use Rattle.sig_bits.specs.Joined.{missing_at}
use Rattle.sig_bits.proofs.LaneLemmas.{HasLanes-map, HasLanes-zip2, joined_lanes}
use Rattle.sig_bits.proofs.bit_sets.missing_lanes.Goals as goal

pub returns : goal.returns
returns c =
    joined_lanes _ (missing_at c.args.a.now c.args.b.now) c.args.from c.nonzero.result
    (HasLanes-zip2 bit_and _ _ _ _ c.load.ensures (HasLanes-map _ _ _ c.load-2.ensures)) c.nonzero.ensures.joined
