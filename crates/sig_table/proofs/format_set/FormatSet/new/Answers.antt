use Rattle.sig_table.specs.FormatSets.{HasFormat}
use Rattle.sig_bits.proofs.Exports.{zeros_have_no_bit}
use Rattle.sig_table.proofs.format_set.FormatSet.new.Goals as goal

pub returns : goal.returns
unfolding HasFormat
returns c f h = zeros_have_no_bit 125 f h
