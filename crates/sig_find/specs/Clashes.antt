-- Signatures that ask for different bytes at one place.
use Rattle.std.specs.Prelude.{◌≡◌, ◌≢◌, ⊤, ℕ, List, length}
use Rattle.sig_expr.specs.declared.item.Item.{Item}
use Rattle.sig_expr.specs.declared.item.Item.TheVariants as item
use Rattle.sig_core.specs.Hits.{HitsOf}
use Rattle.sig_table.specs.Standing.{Cut, Stands}
use Rattle.sig_table.specs.Views.{SequenceView, TableView}

-- no file is hit by both signatures
abbrev pub NeverMeet : TableView → ℕ × ℕ → Type 0
NeverMeet table product = (file : List ℕ) → HitsOf table product.0 file → ¬ HitsOf table product.1 file

-- the two sequences stand in no file together
abbrev pub NeverStand : SequenceView → SequenceView → Type 0
NeverStand x y = (file : List ℕ) → Stands x file → ¬ Stands y file

-- a word of the items stands at this offset
abbrev pub StandsFrom : ℕ → List Item → List ℕ → Type 0
StandsFrom at items file = (c : Cut items file) × (length c.front ≡ at)

-- the item is a byte or `??`, so each word of it has one byte
abbrev pub IsOneByte : Item → Type 0
IsOneByte (item.Byte b) = ⊤
IsOneByte item.Any = ⊤
IsOneByte i = ⊥

-- the two items are bytes, and not the same
abbrev pub AreDifferentBytes : Item → Item → Type 0
AreDifferentBytes x y = (c : ℕ) × (d : ℕ) × (x ≡ item.Byte c) × (y ≡ item.Byte d) × (c ≢ d)
