-- A sequence as a tree over its slots: the whole-file expression, with each bracket unfolded into classes.
use Rattle.std.specs.Prelude.{ℕ, ◌==◌, if◌then◌else◌, List, [], ◌∷◌, ◌++◌, length, slice_index, Option, Some, None}
use Rattle.sig_auto.specs.declared.class.Class.{Class}
use Rattle.sig_auto.specs.declared.class.Class.TheVariants.{Within, Outside}
use Rattle.sig_auto.specs.Classes.{any, only}
use Rattle.sig_auto.specs.Rows.{above, below, between}
use Rattle.sig_expr.specs.declared.item.Atom.{Atom}
use Rattle.sig_expr.specs.declared.item.Atom.TheVariants as atom
use Rattle.sig_expr.specs.declared.item.Item.{Item}
use Rattle.sig_expr.specs.declared.item.Item.TheVariants as item
use Rattle.sig_table.specs.declared.position.Position.{Position}
use Rattle.sig_table.specs.declared.position.Position.TheVariants as position
use Rattle.sig_table.specs.Views.{SequenceView}

-- no word, the empty word, one byte of a class, bytes by their number, a word of one and then of the other, a word of one or of the other
pub data Tree : Type 0 where
  Never : Tree
  Empty : Tree
  Slot : Class → Tree
  Gap : ℕ → Option ℕ → Tree
  Then : Tree → Tree → Tree
  Or : Tree → Tree → Tree

-- a row: its classes, one after the other
abbrev pub row_tree : List Class → Tree
row_tree [] = Empty
row_tree (c ∷ cs) = Then (Slot c) (row_tree cs)

-- one of the rows
abbrev pub rows_tree : List (List Class) → Tree
rows_tree [] = Never
rows_tree (r ∷ rs) = Or (row_tree r) (rows_tree rs)

-- a bracket of one byte is one slot; a longer one, its rows
abbrev pub bracket_tree : List ℕ → Class → List (List Class) → Tree
bracket_tree a one rows = if length a == 1 then Slot one else rows_tree rows

-- a bracket that excludes: as many bytes that are before the first ones or after the second
abbrev pub outside_tree : List ℕ → List ℕ → Tree
outside_tree a b = bracket_tree a (Outside (slice_index a 0) (slice_index b 0)) (below a ++ above b)

-- a part of an alternative
abbrev pub atom_tree : Atom → Tree
atom_tree (atom.Byte b) = Slot (only b)
atom_tree (atom.Range a b) = bracket_tree a (Within (slice_index a 0) (slice_index b 0)) (between a b)
atom_tree (atom.Not a) = outside_tree a a
atom_tree (atom.NotRange a b) = outside_tree a b

-- an alternative: its parts, one after the other
abbrev pub atoms_tree : List Atom → Tree
atoms_tree [] = Empty
atoms_tree (p ∷ ps) = Then (atom_tree p) (atoms_tree ps)

-- one of the alternatives
abbrev pub alternatives_tree : List (List Atom) → Tree
alternatives_tree [] = Never
alternatives_tree (a ∷ rest) = Or (atoms_tree a) (alternatives_tree rest)

-- an item
abbrev pub item_tree : Item → Tree
item_tree (item.Byte b) = atom_tree (atom.Byte b)
item_tree item.Any = Slot any
item_tree (item.Gap min max) = Gap min max
item_tree (item.Alt alternatives) = alternatives_tree alternatives
item_tree (item.Range a b) = atom_tree (atom.Range a b)
item_tree (item.Not a) = atom_tree (atom.Not a)
item_tree (item.NotRange a b) = atom_tree (atom.NotRange a b)

-- an expression: its items, one after the other, and then this
abbrev pub items_tree : List Item → Tree → Tree
items_tree [] last = last
items_tree (i ∷ is) last = Then (item_tree i) (items_tree is last)

-- what may stand before the expression in the file
abbrev pub front_tree : Position → Tree
front_tree (position.Bof min max) = Gap min (Some max)
front_tree (position.Eof min max) = Gap 0 None
front_tree position.Variable = Gap 0 None

-- what may stand behind it
abbrev pub back_tree : Position → Tree
back_tree (position.Bof min max) = Gap 0 None
back_tree (position.Eof min max) = Gap min (Some max)
back_tree position.Variable = Gap 0 None

-- the whole file: what is before the expression, the expression, and what is behind it
abbrev pub whole_tree : SequenceView → Tree
whole_tree s = Then (front_tree s.position) (items_tree s.items (back_tree s.position))
