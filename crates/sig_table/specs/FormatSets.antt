-- Sets of formats.
use Rattle.std.specs.Prelude.{ℕ}
use Rattle.sig_bits.specs.BitSets.{HasBit}
use Rattle.sig_table.specs.declared.format_set.FormatSet.{FormatSet}

-- the format is in the set
unfoldable pub HasFormat : FormatSet → ℕ → Type 0
HasFormat set format = HasBit set.bits format
