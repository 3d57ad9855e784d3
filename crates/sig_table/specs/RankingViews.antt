-- What a ranking keeps.
use Rattle.std.specs.Prelude.{◌≡◌, ℕ, ◌<◌, ◌≤◌, ◌↔◌, List, length, slice_index_or}
use Rattle.sig_table.specs.declared.format_set.FormatSet.{FormatSet}
use Rattle.sig_table.specs.declared.ranking.Ranking.TheInside.{Inside}
use Rattle.sig_table.specs.FormatSets.{HasFormat}
use Rattle.sig_table.specs.Ranking.{IsAbove}
use Rattle.sig_table.specs.Tables.{ArePriorities}

-- how many formats there are, and the pairs so far
pub record RankingView : Type 0 where
  pub format_count : ℕ
  pub pairs : List (ℕ × ℕ)

-- each set has the formats to which the pairs lead down from the format at its place
unfoldable pub AreBelow : List FormatSet → List (ℕ × ℕ) → Type 0
AreBelow sets pairs = (x : ℕ) → x < length sets → (set : FormatSet) → slice_index_or sets x set ≡ set → (y : ℕ) → (HasFormat set y ↔ IsAbove pairs x y)

-- at most 1,000 formats, priorities among them, and the formats below each
pub record IsRanking (r : Inside) : Type 0 where
  pub few : length r.below.items ≤ 1000
  pub priorities : ArePriorities (length r.below.items) r.pairs.keys
  pub below : AreBelow r.below.items r.pairs.keys
