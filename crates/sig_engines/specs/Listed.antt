-- The names in a list of names.
use Rattle.std.specs.Prelude.{◌≡◌, ◌==◌, ◌<◌, ℕ, ◌+◌, Bool, true, false, List, [], ◌∷◌, ◌++◌, drop, length, option_map, take, Option, Some, None, if◌then◌else◌, ⊤}
use Rattle.std.specs.List.{list_any}
use Rattle.sig_engines.specs.declared.name_reader.NameReader.{NameReader}

-- the last name of a list, which has no end, unless nothing stands there
abbrev pub last_name : List ℕ → List (List ℕ)
last_name [] = []
last_name (b ∷ bytes) = (b ∷ bytes) ∷ []

-- the names in these bytes, of the first of which this stands before them
unfoldable pub names_behind : ℕ → List ℕ → List ℕ → List (List ℕ)
names_behind end name [] = last_name name
names_behind end name (b ∷ bytes) = if b == end then name ∷ names_behind end [] bytes else names_behind end (name ++ b ∷ []) bytes

-- the names in these bytes: what stands before each end, and what stands behind the last one unless it is nothing
abbrev pub listed : ℕ → List ℕ → List (List ℕ)
listed end bytes = names_behind end [] bytes

-- no byte is this one
abbrev pub LacksByte : ℕ → List ℕ → Type 0
LacksByte end bytes = list_any (λ b. b == end) bytes ≡ false

-- the first end stands behind so many bytes, and those before it are moved behind the name; without one all are
abbrev pub EndsAt : ℕ → Option ℕ → (name bytes moved : List ℕ) → Type 0
EndsAt end (Some n) name bytes moved = (n < length bytes) × (moved ≡ name ++ take n bytes) × LacksByte end (take n bytes) × (bytes ≡ take n bytes ++ end ∷ drop (n + 1) bytes)
EndsAt end None name bytes moved = (moved ≡ name ++ bytes) × LacksByte end bytes

-- of the bytes those before the first end are moved behind the name, and the end is dropped; without one all are moved
abbrev pub MovesName : ℕ → Bool → (old name new moved : List ℕ) → Type 0
MovesName end true old name new moved = (front : List ℕ) × (moved ≡ name ++ front) × LacksByte end front × (old ≡ front ++ end ∷ new)
MovesName end false old name new moved = (moved ≡ name ++ old) × LacksByte end old × (new ≡ [])

-- what ends a name
abbrev pub end_of : {I : Type 0} → NameReader I → ℕ
end_of names = names.end

-- whether a read has failed
abbrev pub has_failed : {I : Type 0} → (I → Bool) → NameReader I → Bool
has_failed failed names = failed names.input

-- what is still to be taken, where it is known
abbrev pub unread_of : {I : Type 0} → (I → Option (List ℕ)) → NameReader I → Option (List ℕ)
unread_of to_come names = option_map (λ rest. names.piece ++ rest) (to_come names.input)

-- how many bytes may still be taken
abbrev pub left_of : {I : Type 0} → (I → ℕ) → NameReader I → ℕ
left_of limit names = length names.piece + limit names.input

-- the first of the names in these bytes are these, and the others are those in the bytes after them
abbrev pub TakesNames : ℕ → Option (List ℕ) → List (List ℕ) → Option (List ℕ) → Type 0
TakesNames end None names after = ⊤
TakesNames end (Some before) names None = ⊥
TakesNames end (Some before) names (Some after) = listed end before ≡ names ++ listed end after

-- the names in these bytes are these, where the bytes are known
abbrev pub AreListed : ℕ → Option (List ℕ) → List (List ℕ) → Type 0
AreListed end None names = ⊤
AreListed end (Some bytes) names = names ≡ listed end bytes
