-- Sets of bytes.
use Rattle.std.specs.Prelude.{ℕ, ◌<◌, ◌≤◌, Option, MatchOption}
use Rattle.sig_bits.specs.BitSets.{HasBit}
use Rattle.sig_bits.specs.declared.byte_class.ByteClass.{ByteClass}

-- the byte is in the class
unfoldable pub Holds : ByteClass → ℕ → Type 0
Holds class byte = HasBit class.bits byte

-- the lowest byte of the class from this number on, or none where it has none
abbrev pub IsLowestFrom : ByteClass → ℕ → Option ℕ → Type 0
IsLowestFrom class from lowest =
    MatchOption lowest ((b : ℕ) → from ≤ b → ¬ Holds class b)
    (λ b. (from ≤ b) × Holds class b × ((a : ℕ) → from ≤ a → a < b → ¬ Holds class a))
