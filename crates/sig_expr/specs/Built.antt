-- The items of a text from its pieces.
use Rattle.std.specs.Prelude.{Bool, true, false, if◌then◌else◌, List, [], ◌∷◌, ◌++◌, map, Option, Some, None}
use Rattle.sig_expr.specs.declared.builder.Builder.{Builder}
use Rattle.sig_expr.specs.declared.lexer.Piece.{Piece}
use Rattle.sig_expr.specs.declared.lexer.Piece.TheVariants as piece
use Rattle.sig_expr.specs.declared.item.Atom.{Atom}
use Rattle.sig_expr.specs.declared.item.Atom.TheVariants as atom
use Rattle.sig_expr.specs.declared.item.Item.{Item}
use Rattle.sig_expr.specs.declared.item.Item.TheVariants as item
use Rattle.sig_expr.specs.Ends.{word_of, with_word, with_words}

-- the items so far; in a list its alternatives so far, and the parts of the one that is read
pub record Built : Type 0 where
  pub items : List Item
  pub alternatives : List (List Atom)
  pub alternative : List Atom
  pub inside : Bool

-- what a builder holds, without where it lies in memory
abbrev pub built : Builder → Built
built b = record {
  items = b.items.items;
  alternatives = map (λ v. v.items) b.alternatives.items;
  alternative = b.alternative.items;
  inside = b.inside;
}

abbrev pub fresh : Built
fresh = record { items = []; alternatives = []; alternative = []; inside = false }

-- the part of a list, where the piece is one and its ends have words
abbrev pub atom_of : Piece → Option Atom
atom_of (piece.Byte b) = Some (atom.Byte b)
atom_of piece.Any = None
atom_of (piece.Gap min max) = None
atom_of (piece.Range a b) = with_words (λ x y. Some (atom.Range x y)) (word_of a) (word_of b)
atom_of (piece.Not a) = with_word (λ x. Some (atom.Not x)) (word_of a)
atom_of (piece.NotRange a b) = with_words (λ x y. Some (atom.NotRange x y)) (word_of a) (word_of b)
atom_of piece.Open = None
atom_of piece.Bar = None
atom_of piece.Close = None

-- the item, where the piece is one and its ends have words
abbrev pub item_of : Piece → Option Item
item_of (piece.Byte b) = Some (item.Byte b)
item_of piece.Any = Some item.Any
item_of (piece.Gap min max) = Some (item.Gap min max)
item_of (piece.Range a b) = with_words (λ x y. Some (item.Range x y)) (word_of a) (word_of b)
item_of (piece.Not a) = with_word (λ x. Some (item.Not x)) (word_of a)
item_of (piece.NotRange a b) = with_words (λ x y. Some (item.NotRange x y)) (word_of a) (word_of b)
item_of piece.Open = None
item_of piece.Bar = None
item_of piece.Close = None

-- the alternative that is read ends
abbrev pub with_bar : Built → Built
with_bar u = record { items = u.items; alternatives = u.alternatives ++ u.alternative ∷ []; alternative = []; inside = true }

-- the list ends
abbrev pub with_close : Built → Built
with_close u = record { items = u.items ++ item.Alt (u.alternatives ++ u.alternative ∷ []) ∷ []; alternatives = []; alternative = []; inside = false }

abbrev pub with_atom : Built → Option Atom → Built
with_atom u None = u
with_atom u (Some a) = record { items = u.items; alternatives = u.alternatives; alternative = u.alternative ++ a ∷ []; inside = u.inside }

abbrev pub with_item : Built → Option Item → Built
with_item u None = u
with_item u (Some i) = record { items = u.items ++ i ∷ []; alternatives = u.alternatives; alternative = u.alternative; inside = u.inside }

-- a byte, a bracket, `??` or a gap
abbrev pub with_part : Built → Piece → Built
with_part u p = if u.inside then with_atom u (atom_of p) else with_item u (item_of p)

-- one piece more
abbrev pub built_of : Built → Piece → Built
built_of u (piece.Byte b) = with_part u (piece.Byte b)
built_of u piece.Any = with_part u piece.Any
built_of u (piece.Gap min max) = with_part u (piece.Gap min max)
built_of u (piece.Range a b) = with_part u (piece.Range a b)
built_of u (piece.Not a) = with_part u (piece.Not a)
built_of u (piece.NotRange a b) = with_part u (piece.NotRange a b)
built_of u piece.Open = record { items = u.items; alternatives = u.alternatives; alternative = u.alternative; inside = true }
built_of u piece.Bar = with_bar u
built_of u piece.Close = with_close u
