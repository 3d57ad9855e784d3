-- The canonical text of an expression.
use Rattle.std.specs.Prelude.{ℕ, nat_eq, if◌then◌else◌, List, [], ◌∷◌, ◌++◌, Option, Some, None, codes, decimal}
use Rattle.hex.specs.Hex.{encode_upper}
use Rattle.sig_expr.specs.declared.item.Atom.{Atom}
use Rattle.sig_expr.specs.declared.item.Atom.TheVariants as atom
use Rattle.sig_expr.specs.declared.item.Item.{Item}
use Rattle.sig_expr.specs.declared.item.Item.TheVariants as item

-- a gap of one length
unfoldable pub count_text : ℕ → List ℕ
count_text n = codes "{" ++ (decimal n ++ codes "}")

-- a gap of this length or more
unfoldable pub from_text : ℕ → List ℕ
from_text min = codes "{" ++ (decimal min ++ codes "-*}")

-- a gap between two lengths
unfoldable pub between_text : ℕ → ℕ → List ℕ
between_text min max = codes "{" ++ (decimal min ++ (codes "-" ++ (decimal max ++ codes "}")))

-- a gap
abbrev pub gap_text : ℕ → Option ℕ → List ℕ
gap_text min None = if nat_eq min 0 then codes "*" else from_text min
gap_text min (Some max) = if nat_eq min max then count_text max else between_text min max

-- a bracket with two ends, behind what opens it
unfoldable pub range_text : List ℕ → List ℕ → List ℕ → List ℕ
range_text opening a b = opening ++ (encode_upper a ++ (codes ":" ++ (encode_upper b ++ codes "]")))

-- a bracket with one end
unfoldable pub not_text : List ℕ → List ℕ
not_text a = codes "[!" ++ (encode_upper a ++ codes "]")

-- a part of an alternative
abbrev pub atom_text : Atom → List ℕ
atom_text (atom.Byte b) = encode_upper (b ∷ [])
atom_text (atom.Range a b) = range_text (codes "[") a b
atom_text (atom.Not a) = not_text a
atom_text (atom.NotRange a b) = range_text (codes "[!") a b

-- an alternative
unfoldable pub alternative_text : List Atom → List ℕ
alternative_text [] = []
alternative_text (p ∷ ps) = atom_text p ++ alternative_text ps

-- alternatives, the first behind this sign and the others behind bars
unfoldable pub alternatives_text : List ℕ → List (List Atom) → List ℕ
alternatives_text sign [] = []
alternatives_text sign (a ∷ rest) = sign ++ (alternative_text a ++ alternatives_text (codes "|") rest)

-- an item
abbrev pub item_text : Item → List ℕ
item_text (item.Byte b) = encode_upper (b ∷ [])
item_text item.Any = codes "??"
item_text (item.Gap min max) = gap_text min max
item_text (item.Alt alternatives) = alternatives_text (codes "(") alternatives ++ codes ")"
item_text (item.Range a b) = range_text (codes "[") a b
item_text (item.Not a) = not_text a
item_text (item.NotRange a b) = range_text (codes "[!") a b

-- the canonical text
unfoldable pub canon : List Item → List ℕ
canon [] = []
canon (i ∷ is) = item_text i ++ canon is
