-- The pairs of formats and of signatures that a certificate goes over, in order.
use Rattle.std.specs.Prelude.{ℕ, ◌+◌, ◌-◌, ◌⊎◌, List, map, flat_map, Contains}
use Rattle.std.specs.List.{range_with_len}
use Rattle.sig_table.specs.Places.{places_of}
use Rattle.sig_table.specs.Views.{TableView}

-- the formats behind format i, each with it
abbrev pub pairs_with : ℕ → ℕ → List (ℕ × ℕ)
pairs_with formats i = map (λ j. (i, j)) (range_with_len (i + 1) (formats - (i + 1)))

-- the pairs of two formats of so many, the lower one first: ordered by it, and then by the other
abbrev pub format_pairs : ℕ → List (ℕ × ℕ)
format_pairs formats = flat_map (pairs_with formats) (range_with_len 0 formats)

-- the indexes of the signatures of a format, rising
abbrev pub signatures_of : TableView → ℕ → List ℕ
signatures_of table format = map (λ s. s.0) (places_of format 0 table.signatures)

-- each signature of the first format with each of the second: ordered by the first, and then by the second
abbrev pub signature_pairs : TableView → ℕ × ℕ → List (ℕ × ℕ)
signature_pairs table pair = flat_map (λ s. map (λ t. (s, t)) (signatures_of table pair.1)) (signatures_of table pair.0)

-- one of the two formats outranks the other
abbrev pub AreRelated : TableView → ℕ × ℕ → Type 0
AreRelated table pair = Contains table.priorities (pair.0, pair.1) ⊎ Contains table.priorities (pair.1, pair.0)
