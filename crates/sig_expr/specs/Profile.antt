-- Which expressions and which texts are in the profile.
use Rattle.std.specs.Prelude.{◌≡◌, ℕ, ◌<◌, ◌≤◌, List, [], ◌∷◌, length, Option, Some, None, ⊤}
use Rattle.sig_bits.specs.Bytes.{IsBytes}
use Rattle.sig_expr.specs.declared.item.Atom.{Atom}
use Rattle.sig_expr.specs.declared.item.Atom.TheVariants as atom
use Rattle.sig_expr.specs.declared.item.Item.{Item}
use Rattle.sig_expr.specs.declared.item.Item.TheVariants as item
use Rattle.sig_expr.specs.Words.{IsBefore, PartWord}
use Rattle.sig_expr.specs.Spelling.{Spells}
use Rattle.sig_expr.specs.Canon.{canon}

-- a gap's numbers are at most 65,535, its greatest length is not 0 nor below its least
abbrev pub GapSound : ℕ → Option ℕ → Type 0
GapSound min None = min ≤ 65535
GapSound min (Some max) = (min ≤ max) × (max ≤ 65535) × (0 < max)

-- an end of a bracket: one to eight bytes
pub record IsEnd (a : List ℕ) : Type 0 where
  pub some : 0 < length a
  pub short : length a ≤ 8
  pub bytes : IsBytes a

-- a range has two ends of one length, the first before the second
pub record RangeSound (a b : List ℕ) : Type 0 where
  pub first : IsEnd a
  pub second : IsEnd b
  pub same_length : length a ≡ length b
  pub order : IsBefore a b

-- some word is outside the range
abbrev pub LeavesWord : List ℕ → List ℕ → Type 0
LeavesWord a b = (w : List ℕ) × PartWord (atom.NotRange a b) w

-- a part with no fault
abbrev pub AtomSound : Atom → Type 0
AtomSound (atom.Byte b) = b < 256
AtomSound (atom.Range a b) = RangeSound a b
AtomSound (atom.Not a) = IsEnd a
AtomSound (atom.NotRange a b) = RangeSound a b × LeavesWord a b

-- parts with no fault
abbrev pub AtomsSound : List Atom → Type 0
AtomsSound [] = ⊤
AtomsSound (p ∷ ps) = AtomSound p × AtomsSound ps

-- alternatives with no fault, none of which is empty
abbrev pub AlternativesSound : List (List Atom) → Type 0
AlternativesSound [] = ⊤
AlternativesSound (a ∷ rest) = AtomsSound a × AlternativesSound rest × (0 < length a)

-- an item with no fault; a list has two alternatives at least
abbrev pub ItemSound : Item → Type 0
ItemSound (item.Byte b) = b < 256
ItemSound item.Any = ⊤
ItemSound (item.Gap min max) = GapSound min max
ItemSound (item.Alt alternatives) = AlternativesSound alternatives × (2 ≤ length alternatives)
ItemSound (item.Range a b) = RangeSound a b
ItemSound (item.Not a) = IsEnd a
ItemSound (item.NotRange a b) = RangeSound a b × LeavesWord a b

-- items with no fault
abbrev pub ItemsSound : List Item → Type 0
ItemsSound [] = ⊤
ItemsSound (i ∷ is) = ItemSound i × ItemsSound is

-- an item or more, none with a fault, whose canonical text has at most 8,192 bytes
pub record IsExpression (e : List Item) : Type 0 where
  pub some : 0 < length e
  pub sound : ItemsSound e
  pub short : length (canon e) ≤ 8192

-- the text has at most 8,192 bytes and spells items with no fault
pub record InProfile (t : List ℕ) : Type 0 where
  pub items : List Item
  pub some : 0 < length items
  pub short : length t ≤ 8192
  pub spells : Spells items t
  pub sound : ItemsSound items
