-- What gaps and brackets are refused for.
use Rattle.std.specs.Prelude.{ℕ, ◌&&◌, nat_eq, nat_lt, Bool, true, false, if◌then◌else◌, List, [], ◌∷◌, Option, Some, None}
use Rattle.std.specs.Ordering.{nat_cmp}
use Rattle.std.specs.Cmp.Lexicographic.{slice_cmp}
use Rattle.std.specs.declared.cmp.Ordering.{Ordering}
use Rattle.std.specs.declared.cmp.Ordering.TheVariants.{Less, Equal, Greater}
use Rattle.sig_expr.specs.declared.end.End.{End}
use Rattle.sig_expr.specs.declared.lexer.Piece.{Piece}
use Rattle.sig_expr.specs.declared.lexer.Piece.TheVariants as piece
use Rattle.sig_expr.specs.declared.error.ExprError.{ExprError}
use Rattle.sig_expr.specs.declared.error.ExprError.TheVariants as error
use Rattle.sig_expr.specs.Ends.{word_of, with_words}

-- whether each byte is this one
unfoldable pub are_all : ℕ → List ℕ → Bool
are_all v [] = true
are_all v (b ∷ bs) = nat_eq b v && are_all v bs

abbrev pub is_less : Ordering → Bool
is_less Less = true
is_less Equal = false
is_less Greater = false

-- two ends of one length: the first is not below the second, or no word is outside
unfoldable pub order_fault : Bool → List ℕ → List ℕ → ℕ → Option ExprError
order_fault not a b n =
    if is_less (slice_cmp nat_cmp a b) then (if not && (are_all 0 a && are_all 255 b) then Some (error.ClassEmpty n) else None)
    else Some (error.RangeOrder n)

-- a bracket with two ends
unfoldable pub range_fault : Bool → End → End → ℕ → Option ExprError
range_fault not a b n =
    if nat_eq a.len b.len then (if nat_lt 8 a.len then Some (error.BracketTooLong n) else with_words (λ x y. order_fault not x y n) (word_of a) (word_of b))
    else Some (error.RangeLength n)

-- a bracket with one end
unfoldable pub not_fault : End → ℕ → Option ExprError
not_fault a n = if nat_lt 8 a.len then Some (error.BracketTooLong n) else None

-- a gap without a greatest length, and with one
abbrev pub gap_fault_to : ℕ → Option ℕ → ℕ → Option ExprError
gap_fault_to min None n = None
gap_fault_to min (Some max) n =
    if nat_lt 65535 max then Some (error.GapNumber n)
    else if nat_eq max 0 then Some (error.GapEmpty n)
    else if nat_lt max min then Some (error.GapOrder n)
    else None

-- a gap
unfoldable pub gap_fault : ℕ → Option ℕ → ℕ → Option ExprError
gap_fault min max n = if nat_lt 65535 min then Some (error.GapNumber n) else gap_fault_to min max n

-- what a piece that begins at n is refused for
abbrev pub fault_of : Piece → ℕ → Option ExprError
fault_of (piece.Byte b) n = None
fault_of piece.Any n = None
fault_of (piece.Gap min max) n = gap_fault min max n
fault_of (piece.Range a b) n = range_fault false a b n
fault_of (piece.Not a) n = not_fault a n
fault_of (piece.NotRange a b) n = range_fault true a b n
fault_of piece.Open n = None
fault_of piece.Bar n = None
fault_of piece.Close n = None
