-- Classes of bytes: a range, or all bytes outside of it.
use Rattle.std.specs.Prelude.{◌≡◌, ◌⊎◌, ℕ, ◌<◌, ◌≤◌, List, length, slice_index, MatchBool}
use Rattle.sig_scan.specs.declared.class.Class.{Class}

-- the byte is in the class
abbrev pub Takes : Class → ℕ → Type 0
Takes class byte = MatchBool class.outside ((byte < class.low) ⊎ (class.high < byte)) ((class.low ≤ byte) × (byte ≤ class.high))

-- the word is one byte of the class
abbrev pub IsOneOf : Class → List ℕ → Type 0
IsOneOf class w = (length w ≡ 1) × Takes class (slice_index w 0)

-- the byte here is one of the class
abbrev pub TakesAt : Class → List ℕ → ℕ → Type 0
TakesAt class bytes k = (k < length bytes) × Takes class (slice_index bytes k)
