-- How long the words of items are.
use Rattle.std.specs.Prelude.{◌≡◌, ℕ, max, List, [], ◌∷◌, length, Option, Some, None, ⊤, All, sum_by}
use Rattle.sig_expr.specs.declared.item.Atom.{Atom}
use Rattle.sig_expr.specs.declared.item.Atom.TheVariants as atom
use Rattle.sig_expr.specs.declared.item.Item.{Item}
use Rattle.sig_expr.specs.declared.item.Item.TheVariants as item

-- how many bytes a word of the part has
abbrev pub part_length : Atom → ℕ
part_length (atom.Byte b) = 1
part_length (atom.Range a b) = length a
part_length (atom.Not a) = length a
part_length (atom.NotRange a b) = length a

-- how many bytes a word of these parts has
abbrev pub parts_length : List Atom → ℕ
parts_length parts = sum_by part_length parts

-- the greatest of these lengths
abbrev pub longest_of : List (List Atom) → ℕ
longest_of [] = 0
longest_of (a ∷ later) = max (parts_length a) (longest_of later)

-- the greatest length of a gap, or the least one where there is no greatest
abbrev pub gap_span : ℕ → Option ℕ → ℕ
gap_span min None = min
gap_span min (Some max) = max

-- the greatest length of a word of the item, where that is no unbounded gap
abbrev pub item_span : Item → ℕ
item_span (item.Byte b) = 1
item_span item.Any = 1
item_span (item.Gap min max) = gap_span min max
item_span (item.Alt alternatives) = longest_of alternatives
item_span (item.Range a b) = length a
item_span (item.Not a) = length a
item_span (item.NotRange a b) = length a

-- the greatest length of a word of the items, where none is an unbounded gap
abbrev pub span : List Item → ℕ
span items = sum_by item_span items

-- the item is no unbounded gap
abbrev pub IsBoundedItem : Item → Type 0
IsBoundedItem (item.Gap min None) = ⊥
IsBoundedItem i = ⊤

-- no item is an unbounded gap
abbrev pub AreBounded : List Item → Type 0
AreBounded items = All IsBoundedItem items

-- each word is so long
abbrev pub HasLength : (List ℕ → Type 0) → ℕ → Type 0
HasLength IsWord n = (w : List ℕ) → IsWord w → length w ≡ n
