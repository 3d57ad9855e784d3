-- Sets of numbers as bits in bytes.
use Rattle.std.specs.Prelude.{◌≡◌, ℕ, ◌+◌, ◌/◌, ◌%◌, ◌<◌, ◌≤◌, List, slice_index}
use Rattle.std.specs.Int.{bit_at}

-- bit i is set: it has the value 2 ^ (i % 8) in byte i / 8. No bit past the last byte is
unfoldable pub HasBit : List ℕ → ℕ → Type 0
HasBit bits i = bit_at (slice_index bits (i / 8)) (i % 8) ≡ 1

-- some bit from the first bound up to the second is set
abbrev pub HasBitBetween : List ℕ → ℕ → ℕ → Type 0
HasBitBetween bits from to = (i : ℕ) × ((from ≤ i) × (i < to) × HasBit bits i)

-- j is one more than such a bit
abbrev pub IsShiftedBit : List ℕ → ℕ → ℕ → ℕ → Type 0
IsShiftedBit bits from to j = (i : ℕ) × ((j ≡ i + 1) × (from ≤ i) × (i < to) × HasBit bits i)
