-- Frontiers: the offsets of a file at which the words so far end.
use Rattle.std.specs.Prelude.{◌⊎◌, ℕ, ◌+◌, ◌≤◌, List, [], ◌∷◌, length, slice_range, ⊤, Option, MatchOption}
use Rattle.sig_table.specs.declared.position.Position.{Position}
use Rattle.sig_table.specs.declared.position.Position.TheVariants as position
use Rattle.sig_match.specs.declared.whole.frontier.Interval.{Interval}

-- the offset is in the interval
abbrev pub IsWithin : Interval → ℕ → Type 0
IsWithin interval offset = (interval.from ≤ offset) × (offset ≤ interval.to)

-- the offset is in an interval of the frontier
abbrev pub IsIn : List Interval → ℕ → Type 0
IsIn [] offset = ⊥
IsIn (i ∷ is) offset = IsWithin i offset ⊎ IsIn is offset

-- the frontier has exactly these offsets
pub record HasExactly (IsOffset : ℕ → Type 0) (frontier : List Interval) : Type 0 where
  pub sound : (offset : ℕ) → IsIn frontier offset → IsOffset offset
  pub complete : (offset : ℕ) → IsOffset offset → IsIn frontier offset

-- the frontier gains exactly these offsets
pub record Gains (IsOffset : ℕ → Type 0) (old new : List Interval) : Type 0 where
  pub sound : (offset : ℕ) → IsIn new offset → IsIn old offset ⊎ IsOffset offset
  pub kept : (offset : ℕ) → IsIn old offset → IsIn new offset
  pub gained : (offset : ℕ) → IsOffset offset → IsIn new offset

-- some word stands in the file from one of the starts to this end
pub record Reaches (IsWord : List ℕ → Type 0) (file : List ℕ) (IsStart : ℕ → Type 0) (end : ℕ) : Type 0 where
  pub start : ℕ
  pub is_start : IsStart start
  pub in_order : start ≤ end
  pub within : end ≤ length file
  pub is_word : IsWord (slice_range file start end)

-- a sequence of this position may begin at the offset of a file of this length, where no word of it is longer
abbrev pub MayBegin : Position → Option ℕ → ℕ → ℕ → Type 0
MayBegin (position.Bof min max) longest len offset = (min ≤ offset) × (offset ≤ max)
MayBegin (position.Eof min max) longest len offset = MatchOption longest ⊤ (λ n. len ≤ offset + n + max)
MayBegin position.Variable longest len offset = ⊤

-- a sequence of this position may end at the offset of a file of this length
abbrev pub MayEnd : Position → ℕ → ℕ → Type 0
MayEnd (position.Bof min max) len offset = ⊤
MayEnd (position.Eof min max) len offset = (offset + min ≤ len) × (len ≤ offset + max)
MayEnd position.Variable len offset = ⊤

-- some offset of the frontier is one of these
pub record Meets (IsOffset : ℕ → Type 0) (frontier : List Interval) : Type 0 where
  pub offset : ℕ
  pub is_in : IsIn frontier offset
  pub is_offset : IsOffset offset
