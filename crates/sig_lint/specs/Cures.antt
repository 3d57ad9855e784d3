-- What is likely to mend a fault, and the text that has it.
use Rattle.std.specs.Prelude.{ℕ, ◌-◌, ◌==◌, ◌&&◌, ◌||◌, Bool, List, length, map, codes, slice_index, Option, Some, None, if◌then◌else◌}
use Rattle.std.specs.Char.{is_ascii_digit, to_ascii_lowercase}
use Rattle.std.specs.List.{list_all, list_any}
use Rattle.sig_expr.specs.declared.error.ExprError.{ExprError}
use Rattle.sig_expr.specs.declared.error.ExprError.TheVariants as expr
use Rattle.sig_table.specs.declared.error.TableError.{TableError}
use Rattle.sig_table.specs.declared.error.TableError.TheVariants as error
use Rattle.sig_table.specs.declared.error.TableFile.{TableFile}
use Rattle.sig_table.specs.declared.error.TableFile.TheVariants.{Signatures, Priorities}
use Rattle.sig_table.specs.Rows.{is_word, text_at}
use Rattle.sig_lint.specs.declared.cures.Cure.{Cure}
use Rattle.sig_lint.specs.declared.cures.Cure.TheVariants as cure
use Rattle.sig_lint.specs.declared.fields.Field.{Field}
use Rattle.sig_lint.specs.declared.fields.Field.TheVariants as field
use Rattle.sig_lint.specs.FaultViews.{FaultView}

-- the place of a field, the first one where no field alone is at fault
abbrev pub field_place : Field → ℕ
field_place field.Record = 0
field_place field.Puid = 0
field_place field.Signature = 1
field_place field.Position = 2
field_place field.Offset = 3
field_place field.MaxOffset = 4
field_place field.Expression = 5
field_place field.Higher = 0
field_place field.Lower = 1

-- the text that is at fault
abbrev pub text_of : FaultView → List ℕ
text_of fault = text_at fault.fields (field_place fault.field)

-- whether the text has the byte
abbrev pub has_byte : ℕ → List ℕ → Bool
has_byte byte text = list_any (λ b. b == byte) text

-- whether the text is the word, in capitals or not
unfoldable pub is_word_in_any_case : List ℕ → List ℕ → Bool
is_word_in_any_case text word = is_word (map to_ascii_lowercase text) (map to_ascii_lowercase word)

-- a semicolon or a tab where a comma is to be
unfoldable pub separator_cure : List ℕ → Option Cure
separator_cure first = if has_byte 59 first || has_byte 9 first then Some cure.SeparateByCommas else None

-- whether the header of a signature file stands there, in capitals or not
unfoldable pub is_header_in_any_case : List (List ℕ) → Bool
is_header_in_any_case fields =
    is_word_in_any_case (text_at fields 0) (codes "puid") && is_word_in_any_case (text_at fields 1) (codes "signature")
    && is_word_in_any_case (text_at fields 2) (codes "position") && is_word_in_any_case (text_at fields 3) (codes "offset")
    && is_word_in_any_case (text_at fields 4) (codes "max_offset") && is_word_in_any_case (text_at fields 5) (codes "expression")

-- the same of a priority file
unfoldable pub is_pair_header_in_any_case : List (List ℕ) → Bool
is_pair_header_in_any_case fields = is_word_in_any_case (text_at fields 0) (codes "higher") && is_word_in_any_case (text_at fields 1) (codes "lower")

-- whether one of the first six fields is the word, in capitals or not
unfoldable pub has_name : List (List ℕ) → List ℕ → Bool
has_name fields name =
    is_word_in_any_case (text_at fields 0) name || is_word_in_any_case (text_at fields 1) name || is_word_in_any_case (text_at fields 2) name
    || is_word_in_any_case (text_at fields 3) name || is_word_in_any_case (text_at fields 4) name || is_word_in_any_case (text_at fields 5) name

-- whether the names of the header stand there in some order
unfoldable pub has_names : TableFile → List (List ℕ) → Bool
has_names Signatures fields =
    has_name fields (codes "puid") && has_name fields (codes "signature") && has_name fields (codes "position")
    && has_name fields (codes "offset") && has_name fields (codes "max_offset") && has_name fields (codes "expression")
has_names Priorities fields = has_name fields (codes "higher") && has_name fields (codes "lower")

unfoldable pub is_header_but_case : TableFile → List (List ℕ) → Bool
is_header_but_case Signatures fields = is_header_in_any_case fields
is_header_but_case Priorities fields = is_pair_header_in_any_case fields

-- the names in capitals, or in another order
unfoldable pub names_cure : TableFile → List (List ℕ) → Option Cure
names_cure file fields =
    if is_header_but_case file fields then Some cure.WriteHeaderAsGiven
    else (if has_names file fields then Some cure.OrderColumns else None)

-- a first record that is no header: a text of UTF-16 has a 0 beside each letter
unfoldable pub header_cure : TableFile → List (List ℕ) → Option Cure
header_cure file fields =
    if has_byte 0 (text_at fields 0) then Some cure.SaveAsUtf8
    else (if has_byte 59 (text_at fields 0) || has_byte 9 (text_at fields 0) then Some cure.SeparateByCommas
    else names_cure file fields)

-- a blank or a tab
abbrev pub has_blank : List ℕ → Bool
has_blank text = has_byte 32 text || has_byte 9 text

unfoldable pub blank_cure : List ℕ → Option Cure
blank_cure text = if has_blank text then Some cure.RemoveBlanks else None

-- a row of separators alone, or a blank
unfoldable pub puid_cure : List (List ℕ) → List ℕ → Option Cure
puid_cure fields text =
    if (length (text_at fields 0) == 0) && (length (text_at fields 1) == 0) && (length (text_at fields 5) == 0) then Some cure.RemoveRow
    else blank_cure text

-- a number that a spreadsheet wrote with an exponent or a point
unfoldable pub number_cure : List ℕ → Option Cure
number_cure text = if has_byte 69 text || has_byte 101 text || has_byte 46 text then Some cure.WriteNumberOut else blank_cure text

-- a word in capitals or not, or a registry's word that ends with it
unfoldable pub position_cure : List ℕ → Option Cure
position_cure text =
    if is_word_in_any_case text (codes "BOF") || is_word_in_any_case text (codes "EOF") || is_word_in_any_case text (codes "Variable")
    || is_word_in_any_case text (codes "Absolute from BOF") || is_word_in_any_case text (codes "Absolute from EOF")
    then Some cure.WritePositionAsGiven
    else blank_cure text

-- digits that are no offset are too great, or begin with a needless 0
unfoldable pub offset_cure : List ℕ → Option Cure
offset_cure text =
    if (length text == 0) || (slice_index text 0 == 48) then None
    else (if list_all is_ascii_digit text then Some cure.LowerOffset else number_cure text)

-- by the byte where the expression breaks off, and the one before it
unfoldable pub byte_cure : ℕ → ℕ → Option Cure
byte_cure byte before =
    if (byte == 32) || (byte == 9) then Some cure.RemoveBlanks
    else (if (byte == 34) || (byte == 39) then Some cure.RemoveQuotes
    else (if (byte == 125) && (before == 45) then Some cure.OpenGap
    else (if byte == 38 then Some cure.ListBytes else None)))

unfoldable pub expression_cure : List ℕ → ExprError → Option Cure
expression_cure text (expr.Syntax place) = byte_cure (slice_index text place) (slice_index text (place - 1))
expression_cure text _ = None

-- too many slots: each byte of the offset takes one
unfoldable pub slots_cure : List ℕ → Option Cure
slots_cure word = if is_word word (codes "Variable") then None else Some cure.LowerOffset

abbrev pub cure_for : List (List ℕ) → List ℕ → TableError → Option Cure
cure_for fields text (error.Header file) = header_cure file fields
cure_for fields text (error.Fields file row) = separator_cure (text_at fields 0)
cure_for fields text (error.Puid file row) = puid_cure fields text
cure_for fields text (error.SignatureNumber row) = number_cure text
cure_for fields text (error.Position row) = position_cure text
cure_for fields text (error.Offset row) = offset_cure text
cure_for fields text (error.Expression row fault) = expression_cure text fault
cure_for fields text (error.TooManySlots row) = slots_cure (text_at fields 2)
cure_for fields text _ = None

-- what is likely to mend the fault
unfoldable pub cure_of : FaultView → Option Cure
cure_of fault = cure_for fault.fields (text_of fault) fault.error
