use Rattle.sig_table.specs.FormatSets.{HasFormat}
use Rattle.sig_table.proofs.format_set.FormatSet.contains.Goals as goal

pub returns : goal.returns
unfolding HasFormat
returns c = c.get_bit.ensures
