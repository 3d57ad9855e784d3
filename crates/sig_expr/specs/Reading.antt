-- What is read of a text, byte by byte.
use Rattle.std.specs.Prelude.{ℕ, ◌+◌, ◌-◌, ◌*◌, ◌%◌, ◌&&◌, nat_eq, nat_le, nat_lt, Bool, true, false, if◌then◌else◌, List, [], ◌∷◌, Option, Some, None}
use Rattle.hex.specs.Hex.{hex_digit_value}
use Rattle.sig_expr.specs.declared.end.End.{End}
use Rattle.sig_expr.specs.declared.lexer.Context.{Context}
use Rattle.sig_expr.specs.declared.lexer.Context.TheVariants as context
use Rattle.sig_expr.specs.declared.lexer.Token.{Token}
use Rattle.sig_expr.specs.declared.lexer.Token.TheVariants as token
use Rattle.sig_expr.specs.declared.lexer.State.{State}
use Rattle.sig_expr.specs.declared.lexer.Piece.{Piece}
use Rattle.sig_expr.specs.declared.lexer.Piece.TheVariants as piece
use Rattle.sig_expr.specs.declared.lexer.Step.{Step}
use Rattle.sig_expr.specs.declared.lexer.Step.TheVariants as step
use Rattle.sig_expr.specs.Ends.{empty_end, push_of}

-- the value of a decimal digit
abbrev pub decimal_of : ℕ → Option ℕ
decimal_of b = if nat_le 48 b && nat_le b 57 then Some (b - 48) else None

-- the byte of two digits
abbrev pub pair_of : ℕ → ℕ → ℕ
pair_of high low = high % 16 * 16 + low % 16

-- the byte of two digits, where both have values
abbrev pub byte_of : Option ℕ → Option ℕ → Option ℕ
byte_of None low = None
byte_of (Some high) None = None
byte_of (Some high) (Some low) = Some (pair_of high low)

-- the byte of the two digits in front, where both are there
abbrev pub pair_in_front : List ℕ → Option ℕ
pair_in_front [] = None
pair_in_front (high ∷ []) = None
pair_in_front (high ∷ low ∷ later) = byte_of (hex_digit_value high) (hex_digit_value low)

-- what a digit's value does, and what another byte does
abbrev pub with_digit : Option ℕ → (ℕ → Step) → Step → Step
with_digit (Some v) f other = f v
with_digit None f other = other

-- the first byte of a byte or a bracket
unfoldable pub part_of : ℕ → Step
part_of b = with_digit (hex_digit_value b) (λ v. step.More (token.Half v)) (if nat_eq b 91 then step.More token.Bracket else step.Refused)

-- the first byte of a piece outside lists
unfoldable pub item_start_of : ℕ → Step
item_start_of b =
    if nat_eq b 63 then step.More token.Question
    else if nat_eq b 42 then step.Whole (piece.Gap 0 None)
    else if nat_eq b 123 then step.More (token.NumberStart None)
    else if nat_eq b 40 then step.Whole piece.Open
    else part_of b

-- the first byte of a piece in a list
unfoldable pub list_start_of : Bool → Bool → ℕ → Step
list_start_of many some b =
    if nat_eq b 124 && some then step.Whole piece.Bar
    else if nat_eq b 41 && (some && many) then step.Whole piece.Close
    else part_of b

-- the first byte of a piece
unfoldable pub begin_of : Context → ℕ → Step
begin_of context.Start b = item_start_of b
begin_of context.After b = item_start_of b
begin_of (context.List many some) b = list_start_of many some b

abbrev pub dash_star_of : Option ℕ → ℕ → Step
dash_star_of None b = step.Refused
dash_star_of (Some least) b = if nat_eq b 42 then step.More (token.Star least) else step.Refused

-- a number begins, or the star behind a dash
unfoldable pub number_of : Option ℕ → ℕ → Step
number_of least b = with_digit (decimal_of b) (λ v. step.More (token.Number least v)) (dash_star_of least b)

-- behind a number: the dash, or the end of the gap
unfoldable pub closed_gap_of : Option ℕ → ℕ → ℕ → Step
closed_gap_of (Some min) n b = if nat_eq b 125 then step.Whole (piece.Gap min (Some n)) else step.Refused
closed_gap_of None n b =
    if nat_eq b 125 then step.Whole (piece.Gap n (Some n))
    else if nat_eq b 45 then step.More (token.NumberStart (Some n))
    else step.Refused

-- behind a digit of a number
unfoldable pub star_of : Option ℕ → ℕ → ℕ → Step
star_of least n b =
    with_digit (decimal_of b)
    (λ v. if nat_lt 0 n && nat_lt n 10000 then step.More (token.Number least (n * 10 + v)) else step.Refused)
    (closed_gap_of least n b)

-- an end of a bracket begins or goes on
unfoldable pub end_of : Bool → Option End → End → ℕ → Step
end_of not first e b = with_digit (hex_digit_value b) (λ v. step.More (token.EndHalf not first e v)) step.Refused

-- behind a pair of an end: the colon, the end of the bracket, or the next pair
unfoldable pub closed_bracket_of : Bool → Option End → End → ℕ → Step
closed_bracket_of not (Some first) e b =
    if nat_eq b 93 then (if not then step.Whole (piece.NotRange first e) else step.Whole (piece.Range first e))
    else end_of not (Some first) e b
closed_bracket_of not None e b =
    if nat_eq b 93 && not then step.Whole (piece.Not e)
    else if nat_eq b 58 then step.More (token.EndStart not (Some e))
    else end_of not None e b

-- the next byte of a piece
unfoldable pub go_on_of : Token → ℕ → Step
go_on_of token.Between b = step.Refused
go_on_of (token.Half high) b = with_digit (hex_digit_value b) (λ low. step.Whole (piece.Byte (pair_of high low))) step.Refused
go_on_of token.Question b = if nat_eq b 63 then step.Whole piece.Any else step.Refused
go_on_of (token.NumberStart least) b = number_of least b
go_on_of (token.Number least n) b = star_of least n b
go_on_of (token.Star min) b = if nat_eq b 125 then step.Whole (piece.Gap min None) else step.Refused
go_on_of token.Bracket b = if nat_eq b 33 then step.More (token.EndStart true None) else end_of false None empty_end b
go_on_of (token.EndStart not first) b = end_of not first empty_end b
go_on_of (token.EndHalf not first e high) b = with_digit (hex_digit_value b) (λ low. step.More (token.EndPair not first (push_of e (pair_of high low)))) step.Refused
go_on_of (token.EndPair not first e) b = closed_bracket_of not first e b

abbrev pub is_between : Token → Bool
is_between token.Between = true
is_between (token.Half v) = false
is_between token.Question = false
is_between (token.NumberStart l) = false
is_between (token.Number l n) = false
is_between (token.Star l) = false
is_between token.Bracket = false
is_between (token.EndStart n f) = false
is_between (token.EndHalf n f e h) = false
is_between (token.EndPair n f e) = false

-- what the next byte does
unfoldable pub feed_of : State → ℕ → Step
feed_of s b = if is_between s.token then begin_of s.context b else go_on_of s.token b

-- behind a part of a list or an item
abbrev pub behind_part : Context → Context
behind_part context.Start = context.After
behind_part context.After = context.After
behind_part (context.List many some) = context.List many true

-- where a reading stands behind a piece
abbrev pub context_of : Context → Piece → Context
context_of c (piece.Byte b) = behind_part c
context_of c piece.Any = behind_part c
context_of c (piece.Gap min max) = behind_part c
context_of c (piece.Range a b) = behind_part c
context_of c (piece.Not a) = behind_part c
context_of c (piece.NotRange a b) = behind_part c
context_of c piece.Open = context.List false false
context_of c piece.Bar = context.List true false
context_of c piece.Close = context.After

-- where a reading stands behind a byte
abbrev pub next_of : State → Step → State
next_of s step.Refused = s
next_of s (step.More k) = record { context = s.context; token = k }
next_of s (step.Whole p) = record { context = context_of s.context p; token = token.Between }

abbrev pub is_after : Context → Bool
is_after context.Start = false
is_after context.After = true
is_after (context.List many some) = false

-- whether a text may end there
abbrev pub is_end_of : State → Bool
is_end_of s = is_after s.context && is_between s.token

-- nothing is read
abbrev pub start : State
start = record { context = context.Start; token = token.Between }
