-- The ends of gaps.
use Rattle.std.specs.Prelude.{ℕ, ◌+◌, min, Option, Some, None}

-- the greatest end of a gap in a file of this length that begins at this offset at the latest
abbrev pub gap_end : ℕ → ℕ → Option ℕ → ℕ
gap_end len to None = len
gap_end len to (Some max) = min len (to + max)
