-- What a row of the signature file spells, or its first fault.
use Rattle.std.specs.Prelude.{◌&&◌, ℕ, ◌==◌, nat_eq, nat_lt, Bool, if◌then◌else◌, List, [], length, codes, Option, Some, None, unwrap_or, Result, Ok, Err}
use Rattle.std.specs.Cmp.Lexicographic.{pointwise}
use Rattle.std.specs.Option.{ok_or}
use Rattle.csv.specs.Records.{field_at}
use Rattle.sig_expr.specs.declared.item.Item.{Item}
use Rattle.sig_expr.specs.declared.error.ExprError.{ExprError}
use Rattle.sig_expr.specs.Profile.{IsExpression}
use Rattle.sig_expr.specs.Texts.{expr_of}
use Rattle.sig_table.specs.declared.error.TableError.{TableError}
use Rattle.sig_table.specs.declared.error.TableError.TheVariants as error
use Rattle.sig_table.specs.declared.error.TableFile.TheVariants.{Signatures}
use Rattle.sig_table.specs.declared.position.Position.{Position}
use Rattle.sig_table.specs.declared.position.Position.TheVariants as position
use Rattle.sig_table.specs.declared.row.Row.{Row}
use Rattle.sig_table.specs.Judging.{◌>>=◌}
use Rattle.sig_table.specs.Numbers.{number_of, positive_of}
use Rattle.sig_table.specs.Puids.{puid_of}
use Rattle.sig_table.specs.Tables.{InOrder, IsNumber}

-- the field at a place
abbrev pub text_at : List (List ℕ) → ℕ → List ℕ
text_at fields i = unwrap_or (field_at fields i) []

-- whether the text is this word
abbrev pub is_word : List ℕ → List ℕ → Bool
is_word text word = pointwise nat_eq text word

-- a number, where it is at most 65,535
abbrev pub as_offset : Option ℕ → Option ℕ
as_offset None = None
as_offset (Some n) = if nat_lt 65535 n then None else Some n

-- the offset that the text writes
abbrev pub offset_of : List ℕ → Option ℕ
offset_of text = as_offset (number_of 5 text)

-- the two, where the second is not below the first
abbrev pub in_order : ℕ → Option ℕ → Option (ℕ × ℕ)
in_order min None = None
in_order min (Some max) = if nat_lt max min then None else Some (min, max)

-- the least offset and the greatest one, which equals it where its text is empty
abbrev pub up_to : Option ℕ → List ℕ → Option (ℕ × ℕ)
up_to None max = None
up_to (Some min) max = if length max == 0 then Some (min, min) else in_order min (offset_of max)

-- the least offset and the greatest that the texts write
abbrev pub offsets_of : ℕ → List ℕ → List ℕ → Result (ℕ × ℕ) TableError
offsets_of row offset max = ok_or (up_to (offset_of offset) max) (error.Offset row)

-- the position that a word and the texts of the offsets write
unfoldable pub position_of : ℕ → List ℕ → List ℕ → List ℕ → Result Position TableError
position_of row word offset max =
    if is_word word (codes "BOF") then offsets_of row offset max >>= (λ p. Ok (position.Bof p.0 p.1))
    else (if is_word word (codes "EOF") then offsets_of row offset max >>= (λ p. Ok (position.Eof p.0 p.1))
    else (if is_word word (codes "Variable")
    then (if (length offset == 0) && (length max == 0) then Ok position.Variable else Err (error.Offset row))
    else Err (error.Position row)))

-- the items that the text spells
abbrev pub items_in : ℕ → Result (List Item) ExprError → Result (List Item) TableError
items_in row (Ok items) = Ok items
items_in row (Err fault) = Err (error.Expression row fault)

-- a row of six fields
abbrev pub row_with : ℕ → List ℕ → List ℕ → List ℕ → List ℕ → List ℕ → List ℕ → Result Row TableError
row_with row puid number word offset max expression = do
  p ← ok_or (puid_of puid) (error.Puid Signatures row)
  n ← ok_or (positive_of number) (error.SignatureNumber row)
  place ← position_of row word offset max
  items ← items_in row (expr_of expression)
  Ok (record { puid = p; number = n; sequence = record { position = place; items = items } })

-- the row that the fields write, or its first fault
unfoldable pub row_of : ℕ → List (List ℕ) → Result Row TableError
row_of row fields =
    if length fields == 6
    then row_with row (text_at fields 0) (text_at fields 1) (text_at fields 2) (text_at fields 3) (text_at fields 4) (text_at fields 5)
    else Err (error.Fields Signatures row)

-- what holds of each row that is read: its numbers, offsets in order, and an expression of the profile
pub record IsRow (row : Row) : Type 0 where
  pub puid : IsNumber row.puid.number
  pub number : IsNumber row.number
  pub offsets : InOrder row.sequence.position
  pub expression : IsExpression row.sequence.items
