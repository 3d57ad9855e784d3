-- Where the signatures of a format stand in the table.
use Rattle.std.specs.Prelude.{ℕ, ◌+◌, ◌==◌, List, [], ◌∷◌, if◌then◌else◌}
use Rattle.sig_table.specs.declared.ids.SigId.{SigId}
use Rattle.sig_table.specs.Views.{SignatureView}

-- the places of the signatures of this format, the first signature of the list being at this place
abbrev pub places_of : ℕ → ℕ → List SignatureView → List SigId
places_of format at [] = []
places_of format at (s ∷ later) = if s.format == format then record { 0 = at } ∷ places_of format (at + 1) later else places_of format (at + 1) later
