-- The words of parts, items and expressions.
use Rattle.std.specs.Prelude.{◌≡◌, ◌≢◌, ◌⊎◌, ℕ, ◌≤◌, List, [], ◌∷◌, ◌++◌, length, Option, Some, None, ⊤, Contains}
use Rattle.std.specs.Ordering.{nat_cmp}
use Rattle.std.specs.Cmp.Lexicographic.{slice_cmp}
use Rattle.std.specs.declared.cmp.Ordering.TheVariants.{Less, Greater}
use Rattle.sig_bits.specs.Bytes.{IsBytes}
use Rattle.sig_expr.specs.declared.item.Atom.{Atom}
use Rattle.sig_expr.specs.declared.item.Atom.TheVariants as atom
use Rattle.sig_expr.specs.declared.item.Item.{Item}
use Rattle.sig_expr.specs.declared.item.Item.TheVariants as item

-- v is before w, byte by byte from the first
abbrev pub IsBefore : List ℕ → List ℕ → Type 0
IsBefore v w = slice_cmp nat_cmp v w ≡ Less

-- v is before w or is w
abbrev pub IsUpTo : List ℕ → List ℕ → Type 0
IsUpTo v w = slice_cmp nat_cmp v w ≢ Greater

-- n bytes
abbrev pub IsBytesOf : ℕ → List ℕ → Type 0
IsBytesOf n w = (length w ≡ n) × IsBytes w

-- the words of a part: the byte; as many bytes as an end has, from a to b, other than a, or outside a to b
abbrev pub PartWord : Atom → List ℕ → Type 0
PartWord (atom.Byte b) w = w ≡ b ∷ []
PartWord (atom.Range a b) w = IsBytesOf (length a) w × IsUpTo a w × IsUpTo w b
PartWord (atom.Not a) w = IsBytesOf (length a) w × (w ≢ a)
PartWord (atom.NotRange a b) w = IsBytesOf (length a) w × (IsBefore w a ⊎ IsBefore b w)

-- the words of an alternative: one word of each part, joined
abbrev pub AlternativeWord : List Atom → List ℕ → Type 0
AlternativeWord [] w = w ≡ []
AlternativeWord (p ∷ ps) w = (u v : List ℕ) × (w ≡ u ++ v) × PartWord p u × AlternativeWord ps v

-- at most so many, where there is a greatest
abbrev pub IsAtMost : Option ℕ → ℕ → Type 0
IsAtMost None n = ⊤
IsAtMost (Some max) n = n ≤ max

-- the words of an item
abbrev pub Word : Item → List ℕ → Type 0
Word (item.Byte b) w = PartWord (atom.Byte b) w
Word item.Any w = IsBytesOf 1 w
Word (item.Gap min max) w = IsBytes w × (min ≤ length w) × IsAtMost max (length w)
Word (item.Alt alternatives) w = (alternative : List Atom) × Contains alternatives alternative × AlternativeWord alternative w
Word (item.Range a b) w = PartWord (atom.Range a b) w
Word (item.Not a) w = PartWord (atom.Not a) w
Word (item.NotRange a b) w = PartWord (atom.NotRange a b) w

-- the words of an expression: one word of each item, joined
abbrev pub Lang : List Item → List ℕ → Type 0
Lang [] w = w ≡ []
Lang (i ∷ is) w = (u v : List ℕ) × (w ≡ u ++ v) × Word i u × Lang is v
