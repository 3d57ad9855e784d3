-- The reading of a front of a text.
use Rattle.std.specs.Prelude.{◌≡◌, ℕ, List, [], ◌∷◌, ◌++◌, map, Option, Some, None}
use Rattle.sig_expr.specs.declared.end.End.{End}
use Rattle.sig_expr.specs.declared.lexer.State.{State}
use Rattle.sig_expr.specs.declared.lexer.Piece.{Piece}
use Rattle.sig_expr.specs.declared.lexer.Piece.TheVariants as piece
use Rattle.sig_expr.specs.declared.lexer.Step.{Step}
use Rattle.sig_expr.specs.declared.lexer.Step.TheVariants as step
use Rattle.sig_expr.specs.declared.item.Atom.{Atom}
use Rattle.sig_expr.specs.declared.item.Atom.TheVariants as atom
use Rattle.sig_expr.specs.declared.item.Item.{Item}
use Rattle.sig_expr.specs.declared.item.Item.TheVariants as item
use Rattle.sig_expr.specs.Ends.{empty_end, push_of}
use Rattle.sig_expr.specs.Reading.{feed_of, next_of}

abbrev pub run_at : Step → Option State → Option State
run_at step.Refused rest = None
run_at (step.More k) rest = rest
run_at (step.Whole p) rest = rest

-- where a reading stands behind a front, unless a byte is refused
unfoldable pub run : State → List ℕ → Option State
run s [] = Some s
run s (b ∷ t) = run_at (feed_of s b) (run (next_of s (feed_of s b)) t)

abbrev pub pieces_in : Step → List Piece
pieces_in step.Refused = []
pieces_in (step.More k) = []
pieces_in (step.Whole p) = p ∷ []

-- the pieces that end in a front
unfoldable pub pieces : State → List ℕ → List Piece
pieces s [] = []
pieces s (b ∷ t) = pieces_in (feed_of s b) ++ pieces (next_of s (feed_of s b)) t

-- the front is read from one state to another, and has these pieces
pub record Scans (s : State) (t : List ℕ) (ps : List Piece) (after : State) : Type 0 where
  pub ran : run s t ≡ Some after
  pub found : pieces s t ≡ ps

-- an end with these bytes more
abbrev pub end_after : End → List ℕ → End
end_after e [] = e
end_after e (b ∷ bs) = end_after (push_of e b) bs

-- an end of these bytes
abbrev pub end_of_word : List ℕ → End
end_of_word a = end_after empty_end a

-- the piece of a part
abbrev pub piece_of : Atom → Piece
piece_of (atom.Byte b) = piece.Byte b
piece_of (atom.Range a b) = piece.Range (end_of_word a) (end_of_word b)
piece_of (atom.Not a) = piece.Not (end_of_word a)
piece_of (atom.NotRange a b) = piece.NotRange (end_of_word a) (end_of_word b)

-- the pieces of alternatives behind bars
abbrev pub barred : List (List Atom) → List Piece
barred [] = []
barred (a ∷ rest) = piece.Bar ∷ (map piece_of a ++ barred rest)

-- the pieces of a list
abbrev pub listed : List (List Atom) → List Piece
listed [] = []
listed (a ∷ rest) = piece.Open ∷ (map piece_of a ++ (barred rest ++ (piece.Close ∷ [])))

-- the pieces of an item
abbrev pub pieces_of : Item → List Piece
pieces_of (item.Byte b) = piece.Byte b ∷ []
pieces_of item.Any = piece.Any ∷ []
pieces_of (item.Gap min max) = piece.Gap min max ∷ []
pieces_of (item.Alt alternatives) = listed alternatives
pieces_of (item.Range a b) = piece.Range (end_of_word a) (end_of_word b) ∷ []
pieces_of (item.Not a) = piece.Not (end_of_word a) ∷ []
pieces_of (item.NotRange a b) = piece.NotRange (end_of_word a) (end_of_word b) ∷ []

-- the pieces of items
abbrev pub all_pieces : List Item → List Piece
all_pieces [] = []
all_pieces (i ∷ is) = pieces_of i ++ all_pieces is
