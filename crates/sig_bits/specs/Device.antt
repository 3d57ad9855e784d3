-- What a read gives and a write adds, where its bytes are known.
use Rattle.std.specs.Prelude.{◌≡◌, ℕ, ◌<◌, ◌≤◌, List, [], ◌++◌, length, take, Option, Some, None, ⊤}

-- the bytes to come begin with these, and lose them
abbrev pub Gives : Option (List ℕ) → List ℕ → Option (List ℕ) → Type 0
Gives None bytes after = ⊤
Gives (Some before) bytes None = ⊥
Gives (Some before) bytes (Some after) = before ≡ bytes ++ after

-- no byte is to come
abbrev pub IsAtEnd : Option (List ℕ) → Type 0
IsAtEnd None = ⊤
IsAtEnd (Some rest) = rest ≡ []

-- a read gives the first so many bytes of its buffer, and none is the end for a buffer with room
pub record Reads (before : Option (List ℕ)) (buf : List ℕ) (n : ℕ) (after : Option (List ℕ)) : Type 0 where
  pub within : n ≤ length buf
  pub gives : Gives before (take n buf) after
  pub ends : n ≡ 0 → 0 < length buf → IsAtEnd after

-- the bytes written grow by these
abbrev pub Adds : Option (List ℕ) → List ℕ → Option (List ℕ) → Type 0
Adds None bytes after = ⊤
Adds (Some before) bytes None = ⊥
Adds (Some before) bytes (Some after) = after ≡ before ++ bytes

-- the bytes written grow by so many of these, from their front
abbrev pub AddsFront : Option (List ℕ) → List ℕ → Option (List ℕ) → Type 0
AddsFront before bytes after = (n : ℕ) × (n ≤ length bytes) × Adds before (take n bytes) after
