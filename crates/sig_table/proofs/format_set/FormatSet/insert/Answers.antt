use Rattle.sig_table.specs.FormatSets.{HasFormat}
use Rattle.sig_table.proofs.format_set.FormatSet.insert.Goals as goal

pub returns : goal.returns
unfolding HasFormat
returns c = c.set_bit.ensures
