-- Numbers joined by their bits, one after the other.
use Rattle.std.specs.Prelude.{◌≡◌, ◌≢◌, ℕ, ◌<◌, ◌≤◌, List, MatchOption, Option, length, slice_index, bit_and}
use Rattle.std.specs.Int.{bit_not, w8}

-- what came out is 0 exactly where all of the numbers f k are, from the first k up to the second
pub record IsJoined (f : ℕ → ℕ) (from to joined : ℕ) : Type 0 where
  pub none : joined ≡ 0 → (k : ℕ) → from ≤ k → k < to → f k ≡ 0
  pub some : joined ≢ 0 → (k : ℕ) × ((from ≤ k) × (k < to) × (f k ≢ 0))

-- the bits of two bytes that both have, and those that the first has alone
abbrev pub common_at : List ℕ → List ℕ → ℕ → ℕ
common_at a b k = bit_and (slice_index a k) (slice_index b k)

abbrev pub missing_at : List ℕ → List ℕ → ℕ → ℕ
missing_at a b k = bit_and (slice_index a k) (bit_not w8 (slice_index b k))

-- a vector of 32 bytes, of which byte k is f k
pub record HasLanes (lanes : List ℕ) (f : ℕ → ℕ) : Type 0 where
  pub len : length lanes ≡ 32
  pub each : (k : ℕ) → k < 32 → slice_index lanes k ≡ f k

-- the place of the first number of the list that is not 0, from one place on, or none where all are 0
abbrev pub IsFirstNonzero : List ℕ → ℕ → Option ℕ → Type 0
IsFirstNonzero numbers from found =
    MatchOption found ((k : ℕ) → from ≤ k → slice_index numbers k ≡ 0)
    (λ k. (from ≤ k) × (k < length numbers) × (slice_index numbers k ≢ 0) × ((j : ℕ) → from ≤ j → j < k → slice_index numbers j ≡ 0))
