-- The text of a fault: the field and what stands there, what was expected, and what is likely to mend it.
use Rattle.std.specs.Prelude.{ℕ, ◌+◌, ◌/◌, ◌%◌, ◌==◌, ◌||◌, nat_lt, List, [], ◌∷◌, ◌++◌, take, length, flat_map, codes, Option, Some, None, if◌then◌else◌}
use Rattle.std.specs.Fmt.{decimal}
use Rattle.sig_expr.specs.declared.error.ExprError.{ExprError}
use Rattle.sig_expr.specs.declared.error.ExprError.TheVariants as expr
use Rattle.sig_table.specs.declared.error.TableError.{TableError}
use Rattle.sig_table.specs.declared.error.TableError.TheVariants as error
use Rattle.sig_table.specs.declared.error.TableFile.TheVariants.{Signatures, Priorities}
use Rattle.sig_table.specs.Rows.{text_at}
use Rattle.sig_lint.specs.declared.cures.Cure.{Cure}
use Rattle.sig_lint.specs.declared.cures.Cure.TheVariants as cure
use Rattle.sig_lint.specs.declared.fields.Field.{Field}
use Rattle.sig_lint.specs.declared.fields.Field.TheVariants as field
use Rattle.sig_lint.specs.Cures.{cure_of, text_of}
use Rattle.sig_lint.specs.FaultViews.{FaultView}

-- the name of a field
abbrev pub field_name : Field → List ℕ
field_name field.Record = codes "record"
field_name field.Puid = codes "puid"
field_name field.Signature = codes "signature"
field_name field.Position = codes "position"
field_name field.Offset = codes "offset"
field_name field.MaxOffset = codes "max_offset"
field_name field.Expression = codes "expression"
field_name field.Higher = codes "higher"
field_name field.Lower = codes "lower"

-- a digit of base 16
abbrev pub hex_digit : ℕ → ℕ
hex_digit n = if nat_lt n 10 then 48 + n else 55 + n

-- a byte as it is shown: as it is where it is printed in one column, and else by two digits of base 16
unfoldable pub shown_byte : ℕ → List ℕ
shown_byte b =
    if nat_lt b 32 || nat_lt 126 b || (b == 34) || (b == 92) then 92 ∷ 120 ∷ hex_digit (b / 16) ∷ hex_digit (b % 16) ∷ []
    else b ∷ []

-- the first bytes of a text, and two dots where there are more
unfoldable pub shown : List ℕ → List ℕ
shown text = flat_map shown_byte (take 60 text) ++ (if nat_lt 60 (length text) then codes ".." else [])

-- the text of the field; where no field alone is at fault, the first and, behind a comma, the second
abbrev pub shown_field : Field → List (List ℕ) → List ℕ → List ℕ
shown_field field.Record fields text = shown (text_at fields 0) ++ (if nat_lt 1 (length fields) then 44 ∷ shown (text_at fields 1) else [])
shown_field _ fields text = shown text

-- what an expression was expected to be
abbrev pub expected_expression : ExprError → List ℕ
expected_expression expr.TooLong = codes "at most 8192 bytes"
expected_expression (expr.Syntax place) = codes "an expression that goes on from the bytes before it"
expected_expression (expr.GapNumber place) = codes "at most 65535"
expected_expression (expr.GapEmpty place) = codes "a gap of a byte or more"
expected_expression (expr.GapOrder place) = codes "the least length before the greatest"
expected_expression (expr.RangeOrder place) = codes "the lower end before the higher"
expected_expression (expr.ClassEmpty place) = codes "a bracket that leaves a word"
expected_expression expr.OutOfMemory = codes "more memory"
expected_expression (expr.RangeLength place) = codes "two ends of one length"
expected_expression (expr.BracketTooLong place) = codes "ends of at most 8 bytes"

-- what was expected
abbrev pub expected : TableError → List ℕ
expected (error.Header Signatures) = codes "the header puid,signature,position,offset,max_offset,expression"
expected (error.Header Priorities) = codes "the header higher,lower"
expected (error.Fields Signatures row) = codes "six fields"
expected (error.Fields Priorities row) = codes "two fields"
expected (error.Puid file row) = codes "fmt/ or x-fmt/ and a number from 1 to 999999999"
expected (error.SignatureNumber row) = codes "a number from 1 to 999999999"
expected (error.Position row) = codes "BOF, EOF or Variable"
expected (error.Offset row) = codes "a number from 0 to 65535, the greatest offset not below the offset or left out; none at Variable"
expected (error.Expression row fault) = expected_expression fault
expected (error.SignatureOfTwo row) = codes "a number that no other format has"
expected (error.TooManySequences row) = codes "at most 8 sequences of a signature"
expected (error.TooManySlots row) = codes "at most 65535 slots, those of the offset among them"
expected (error.TooManyFormats row) = codes "at most 1000 formats and 4000 signatures"
expected (error.PriorityUnknown row) = codes "a PUID that the signature file names"
expected (error.PrioritySelf row) = codes "two formats"
expected (error.PriorityTwice row) = codes "a pair that no earlier row has"
expected (error.PriorityCycle row) = codes "no way by earlier rows from the second format down to the first"
expected (error.Read file) = codes "a file that can be read"
expected error.OutOfMemory = codes "more memory"

-- the place in an expression, if there is one
abbrev pub expression_place : ExprError → List ℕ
expression_place expr.TooLong = []
expression_place (expr.Syntax place) = codes " at " ++ decimal place
expression_place (expr.GapNumber place) = codes " at " ++ decimal place
expression_place (expr.GapEmpty place) = codes " at " ++ decimal place
expression_place (expr.GapOrder place) = codes " at " ++ decimal place
expression_place (expr.RangeOrder place) = codes " at " ++ decimal place
expression_place (expr.ClassEmpty place) = codes " at " ++ decimal place
expression_place expr.OutOfMemory = []
expression_place (expr.RangeLength place) = codes " at " ++ decimal place
expression_place (expr.BracketTooLong place) = codes " at " ++ decimal place

abbrev pub place_text : TableError → List ℕ
place_text (error.Expression row fault) = expression_place fault
place_text _ = []

-- what is likely to mend it
abbrev pub cure_text : Option Cure → List ℕ
cure_text None = []
cure_text (Some cure.RemoveRow) = codes "; remove the row"
cure_text (Some cure.SeparateByCommas) = codes "; separate the fields by commas"
cure_text (Some cure.SaveAsUtf8) = codes "; save the file as UTF-8"
cure_text (Some cure.WriteHeaderAsGiven) = codes "; write the header in small letters"
cure_text (Some cure.OrderColumns) = codes "; put the columns in the order of the header"
cure_text (Some cure.RemoveBlanks) = codes "; remove blanks and tabs"
cure_text (Some cure.RemoveQuotes) = codes "; write the quoted text as pairs of hexadecimal digits"
cure_text (Some cure.WriteNumberOut) = codes "; write the number in digits alone"
cure_text (Some cure.OpenGap) = codes "; write an open gap as {4-*}"
cure_text (Some cure.ListBytes) = codes "; write the bytes of the mask as a list, as (01|03)"
cure_text (Some cure.WritePositionAsGiven) = codes "; write the word alone, as it is given"
cure_text (Some cure.LowerOffset) = codes "; lower the offset"

-- the text of a fault: `FIELD "TEXT" at PLACE: expected WHAT; CURE`, the place and the cure where there is one
unfoldable pub details_of : FaultView → List ℕ
details_of fault =
    field_name fault.field ++ codes " \"" ++ shown_field fault.field fault.fields (text_of fault) ++ codes "\"" ++ place_text fault.error
    ++ codes ": expected " ++ expected fault.error ++ cure_text (cure_of fault)
