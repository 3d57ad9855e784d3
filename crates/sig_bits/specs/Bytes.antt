-- Files and texts as lists of bytes.
use Rattle.std.specs.Prelude.{ℕ, ◌<◌, List, All}

-- each member is a byte: a number from 0 to 255
abbrev pub IsBytes : List ℕ → Type 0
IsBytes xs = All (λ b. b < 256) xs
