-- Bytes that every word of some items has at one distance from its beginning.
use Rattle.std.specs.Prelude.{◌≡◌, ◌⊎◌, ℕ, zero, suc, ◌+◌, ◌<◌, ◌≤◌, List, [], ◌∷◌, ⊤, length, slice_index}
use Rattle.sig_expr.specs.declared.item.Item.{Item}
use Rattle.sig_expr.specs.Words.{Word}
use Rattle.sig_scan.specs.Placed.{Lies}

-- bytes, those that may stand in their place, and how far behind the beginning of a word they are
pub record LiteralView : Type 0 where
  pub at : ℕ
  pub text : List ℕ
  pub other : List ℕ

-- the one or the other byte of a place
abbrev pub byte_of : LiteralView → ℕ → ℕ → ℕ
byte_of literal k zero = slice_index literal.text k
byte_of literal k (suc n) = slice_index literal.other k

-- the byte may stand at this place of the literal
abbrev pub Fits : LiteralView → ℕ → ℕ → Type 0
Fits literal k byte = (byte ≡ slice_index literal.text k) ⊎ (byte ≡ slice_index literal.other k)

-- the literal stands in a file at this offset
pub record StandsAt (literal : LiteralView) (file : List ℕ) (start : ℕ) : Type 0 where
  pub within : start + length literal.text ≤ length file
  pub fits : (k : ℕ) → k < length literal.text → Fits literal k (slice_index file (start + k))

-- wherever a word of the items lies, the literal stands behind its beginning
pub record IsLiteralOf (items : List Item) (literal : LiteralView) : Type 0 where
  pub stands : (file : List ℕ) (start end : ℕ) → Lies items file start end → StandsAt literal file (start + literal.at)

-- each word of the item is one of the two bytes
abbrev pub IsEitherOf : Item → ℕ → ℕ → Type 0
IsEitherOf i a b = (w : List ℕ) → Word i w → (w ≡ a ∷ []) ⊎ (w ≡ b ∷ [])

-- the words of the items begin with these bytes, or others in their place, one of each item
abbrev pub BeginsWith : List Item → List ℕ → List ℕ → Type 0
BeginsWith items [] other = ⊤
BeginsWith items (a ∷ text) [] = ⊥
BeginsWith [] (a ∷ text) (b ∷ other) = ⊥
BeginsWith (i ∷ items) (a ∷ text) (b ∷ other) = IsEitherOf i a b × BeginsWith items text other

-- each word of the items is so long
pub record AreFixed (items : List Item) (n : ℕ) : Type 0 where
  pub long : (file : List ℕ) (start end : ℕ) → Lies items file start end → start + n ≡ end
