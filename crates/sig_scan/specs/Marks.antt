-- Bits of words, and the offsets of a class below a bound.
use Rattle.std.specs.Prelude.{◌≡◌, ℕ, ◌+◌, ◌-◌, ◌<◌, ◌≤◌, List, length, slice_index}
use Rattle.std.specs.Int.{bit_at}
use Rattle.sig_scan.specs.declared.class.Class.{Class}
use Rattle.sig_scan.specs.Classes.{TakesAt}
use Rattle.sig_scan.specs.Frontiers.{HasBits}

-- the set has the offsets below the bound at which a byte of the class stands
abbrev pub MarksBelow : Class → List ℕ → ℕ → List ℕ → Type 0
MarksBelow class bytes below set = HasBits (λ k. TakesAt class bytes k × (k < below)) set

-- the lowest bits of the word, so many, are the numbers from this one on, and this number is one of them
abbrev pub HasWord : ℕ → ℕ → ℕ → ℕ → Type 0
HasWord word from count j = (from ≤ j) × (j < from + count) × (bit_at word (j - from) ≡ 1)

-- a vector of the 32 bytes from this offset on
pub record HasLanes (lanes bytes : List ℕ) (from : ℕ) : Type 0 where
  pub len : length lanes ≡ 32
  pub each : (k : ℕ) → k < 32 → slice_index lanes k ≡ slice_index bytes (from + k)
