-- Pairs of which the first format outranks the second, and the ways down that they make.
use Rattle.std.specs.Prelude.{ℕ, ◌&&◌, ◌||◌, nat_eq, Bool, false, List, [], ◌∷◌, Contains}
use Rattle.std.specs.List.{list_any}

-- the first format outranks the second: the pair is listed, and none is implied by others
abbrev pub Outranks : List (ℕ × ℕ) → ℕ → ℕ → Type 0
Outranks pairs higher lower = Contains pairs (higher, lower)

-- whether it does
abbrev pub ranks : List (ℕ × ℕ) → ℕ → ℕ → Bool
ranks pairs higher lower = list_any (λ pair. nat_eq pair.0 higher && nat_eq pair.1 lower) pairs

-- from the one format over these down to the other, each step a listed pair
abbrev pub WayDown : List (ℕ × ℕ) → ℕ → List ℕ → ℕ → Type 0
WayDown pairs h [] l = Contains pairs (h, l)
WayDown pairs h (m ∷ ms) l = Contains pairs (h, m) × WayDown pairs m ms l

-- some way leads from the one down to the other
abbrev pub IsAbove : List (ℕ × ℕ) → ℕ → ℕ → Type 0
IsAbove pairs h l = (ms : List ℕ) × WayDown pairs h ms l

-- no list of formats, each outranking the next, has the last outranking the first
abbrev pub NoCycle : List (ℕ × ℕ) → Type 0
NoCycle pairs = (f : ℕ) → IsAbove pairs f f → ⊥

-- whether some way leads from the one down to the other: without this pair, or by it
unfoldable pub is_above : List (ℕ × ℕ) → ℕ → ℕ → Bool
is_above [] h l = false
is_above (pair ∷ pairs) h l = is_above pairs h l || ((nat_eq h pair.0 || is_above pairs h pair.0) && (nat_eq pair.1 l || is_above pairs pair.1 l))
