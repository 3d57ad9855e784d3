-- From each signature of a table to the next of its format.
use Rattle.std.specs.Prelude.{◌≡◌, ℕ, zero, suc, ◌<◌, List, [], ◌∷◌, length, nat_lt, slice_index, if◌then◌else◌}
use Rattle.sig_table.specs.declared.ids.SigId.{SigId}
use Rattle.sig_table.specs.Places.{places_of}
use Rattle.sig_table.specs.Views.{SignatureView}

-- the places that are met from this one on, in at most so many steps: behind each comes its link
abbrev pub linked : ℕ → List ℕ → ℕ → List SigId
linked zero nexts place = []
linked (suc steps) nexts place = if nat_lt place (length nexts) then record { 0 = place } ∷ linked steps nexts (slice_index nexts place) else []

-- all places that are met from this one on
unfoldable pub linked_from : List ℕ → ℕ → List SigId
linked_from nexts place = linked (length nexts) nexts place

-- each link leads to a later place
abbrev pub LinksRise : List ℕ → Type 0
LinksRise nexts = (place : ℕ) → place < length nexts → place < slice_index nexts place

-- one link for each signature: they rise, and from the first place of each format they lead through the places of its signatures
pub record AreLinked (signatures : List SignatureView) (firsts nexts : List ℕ) : Type 0 where
  pub as_many : length nexts ≡ length signatures
  pub rise : LinksRise nexts
  pub each : (format : ℕ) → format < length firsts → linked_from nexts (slice_index firsts format) ≡ places_of format 0 signatures
