use Rattle.sig_bits.proofs.LaneLemmas.{bits_of_mask, joined_of_mask, mask_is_short}
use Rattle.sig_bits.proofs.lanes.nonzero.Goals as goal

pub returns-clause-joined : goal.returns-clause-joined
returns-clause-joined c = joined_of_mask c.args.lanes c.fits-lanes.0

pub returns-clause-each : goal.returns-clause-each
returns-clause-each c = bits_of_mask c.args.lanes c.fits-lanes.0

pub returns-clause-few : goal.returns-clause-few
returns-clause-few c = mask_is_short c.args.lanes c.fits-lanes.0
