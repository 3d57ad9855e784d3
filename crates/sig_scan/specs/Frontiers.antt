-- Sets of offsets of a file as bits, and where words end that begin at given offsets.
use Rattle.std.specs.Prelude.{◌≡◌, ◌⊎◌, ℕ, ◌+◌, ◌*◌, ◌<◌, ◌≤◌, List, length, slice_range, Option, MatchOption}
use Rattle.sig_bits.specs.BitSets.{HasBit}
use Rattle.sig_expr.specs.declared.item.Item.{Item}
use Rattle.sig_scan.specs.Placed.{Lies}

-- the set has exactly these offsets
pub record HasBits (IsOffset : ℕ → Type 0) (set : List ℕ) : Type 0 where
  pub sound : (offset : ℕ) → HasBit set offset → IsOffset offset
  pub complete : (offset : ℕ) → IsOffset offset → HasBit set offset

-- the set gains exactly these offsets
pub record GainsBits (IsOffset : ℕ → Type 0) (old new : List ℕ) : Type 0 where
  pub sound : (offset : ℕ) → HasBit new offset → HasBit old offset ⊎ IsOffset offset
  pub kept : (offset : ℕ) → HasBit old offset → HasBit new offset
  pub gained : (offset : ℕ) → IsOffset offset → HasBit new offset

-- some word stands in the file from one of the starts to this end
pub record Reaches (IsWord : List ℕ → Type 0) (file : List ℕ) (IsStart : ℕ → Type 0) (end : ℕ) : Type 0 where
  pub start : ℕ
  pub is_start : IsStart start
  pub in_order : start ≤ end
  pub within : end ≤ length file
  pub is_word : IsWord (slice_range file start end)

-- sets of one length, with room for each offset of the bytes and the one behind the last: starts, all of them in the bytes, ends, and room
-- for what an alternative, its parts and a class take
pub record AreSetsOf (bytes starts ends alternative parts marks : List ℕ) : Type 0 where
  pub room : length bytes < 8 * length starts
  pub ends_len : length ends ≡ length starts
  pub alternative_len : length alternative ≡ length starts
  pub parts_len : length parts ≡ length starts
  pub marks_len : length marks ≡ length starts
  pub within : (offset : ℕ) → HasBit starts offset → offset ≤ length bytes

-- the least of these offsets from the one up to the other, which is left out
abbrev pub IsLeast : (ℕ → Type 0) → ℕ → ℕ → Option ℕ → Type 0
IsLeast IsOffset least end found =
    MatchOption found ((k : ℕ) → least ≤ k → k < end → ¬ IsOffset k)
    (λ offset. (least ≤ offset) × (offset < end) × IsOffset offset × ((k : ℕ) → least ≤ k → k < offset → ¬ IsOffset k))

-- the greatest of these offsets from the one up to the other, which is left out
abbrev pub IsGreatest : (ℕ → Type 0) → ℕ → ℕ → Option ℕ → Type 0
IsGreatest IsOffset least end found =
    MatchOption found ((k : ℕ) → least ≤ k → k < end → ¬ IsOffset k)
    (λ offset. (least ≤ offset) × (offset < end) × IsOffset offset × ((k : ℕ) → offset < k → k < end → ¬ IsOffset k))

-- the offset is between the two, of which the second is left out
abbrev pub IsBetween : ℕ → ℕ → ℕ → Type 0
IsBetween from to offset = (from ≤ offset) × (offset < to)

-- a start behind this one: so near that their ranges of ends touch, or with none between them; or there is no other
abbrev pub IsNextStart : (ℕ → Type 0) → ℕ → ℕ → ℕ → Option ℕ → Type 0
IsNextStart IsStart start width end found =
    MatchOption found ((k : ℕ) → start < k → k < end → ¬ IsStart k)
    (λ s. (start < s) × (s < end) × IsStart s × ((s ≤ start + width + 1) ⊎ ((k : ℕ) → start < k → k < s → ¬ IsStart k)))

-- a word of the items that begins at an offset from the one up to the other, which is left out, ends here
pub record EndsAt (items : List Item) (file : List ℕ) (from until end : ℕ) : Type 0 where
  pub start : ℕ
  pub first : from ≤ start
  pub last : start < until
  pub lies : Lies items file start end

-- the least such end from this offset on, or none
abbrev pub IsLeastEnd : List Item → List ℕ → ℕ → ℕ → ℕ → Option ℕ → Type 0
IsLeastEnd items file from until least found =
    MatchOption found ((end : ℕ) → least ≤ end → ¬ EndsAt items file from until end)
    (λ e. (least ≤ e) × EndsAt items file from until e × ((end : ℕ) → least ≤ end → end < e → ¬ EndsAt items file from until end))
