-- What loads, and is hardly meant.
use Rattle.std.specs.Prelude.{ℕ, zero, suc, Bool, true, false, List, [], ◌∷◌, ◌++◌, Option, Some, None, option_map, slice_get, if◌then◌else◌}
use Rattle.std.specs.List.{list_all}
use Rattle.sig_expr.specs.declared.item.Item.{Item}
use Rattle.sig_expr.specs.declared.item.Item.TheVariants as item
use Rattle.sig_table.specs.Views.{SequenceView, SignatureView}

-- whether the item asks for no byte: a gap, or any one byte
abbrev pub is_gap : Item → Bool
is_gap (item.Gap min max) = true
is_gap item.Any = true
is_gap _ = false

-- whether the sequences are of gaps alone, so that each file that is long enough has them
abbrev pub are_of_gaps : List SequenceView → Bool
are_of_gaps sequences = list_all (λ s. list_all is_gap s.items) sequences

-- the same of a signature that is there
abbrev pub is_of_gaps : Option (List SequenceView) → Bool
is_of_gaps None = false
is_of_gaps (Some sequences) = are_of_gaps sequences

-- which of the first n signatures are of gaps alone
unfoldable pub places_of_gaps : List SignatureView → ℕ → List ℕ
places_of_gaps signatures zero = []
places_of_gaps signatures (suc n) = places_of_gaps signatures n ++ (if is_of_gaps (option_map (λ s. s.sequences) (slice_get signatures n)) then n ∷ [] else [])
