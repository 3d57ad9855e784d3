-- The words of faults: where in a table one stands, and the rule that is broken.
use Rattle.std.specs.Prelude.{ℕ, List, [], ◌++◌, codes, Option, Some, None}
use Rattle.std.specs.Fmt.{decimal}
use Rattle.sig_expr.specs.declared.error.ExprError.{ExprError}
use Rattle.sig_expr.specs.declared.error.ExprError.TheVariants as expr
use Rattle.sig_table.specs.declared.error.TableError.{TableError}
use Rattle.sig_table.specs.declared.error.TableError.TheVariants as table
use Rattle.sig_table.specs.declared.error.TableFile.{TableFile}
use Rattle.sig_table.specs.declared.error.TableFile.TheVariants.{Signatures, Priorities}
use Rattle.sig_lint.specs.declared.codes.Code.{Code}
use Rattle.sig_lint.specs.declared.codes.Site.{Site}
use Rattle.sig_lint.specs.declared.codes.Site.TheVariants.{Nowhere, File, Row}

-- why an expression is refused: its number, and its place where it has one
abbrev pub expression_code_text : ExprError → List ℕ
expression_code_text expr.TooLong = codes "E1"
expression_code_text (expr.Syntax place) = codes "E2 at " ++ decimal place
expression_code_text (expr.GapNumber place) = codes "E3 at " ++ decimal place
expression_code_text (expr.GapEmpty place) = codes "E4 at " ++ decimal place
expression_code_text (expr.GapOrder place) = codes "E5 at " ++ decimal place
expression_code_text (expr.RangeOrder place) = codes "E6 at " ++ decimal place
expression_code_text (expr.ClassEmpty place) = codes "E7 at " ++ decimal place
expression_code_text expr.OutOfMemory = codes "E8"
expression_code_text (expr.RangeLength place) = codes "E9 at " ++ decimal place
expression_code_text (expr.BracketTooLong place) = codes "E10 at " ++ decimal place

-- why there is no table
abbrev pub code_text : TableError → List ℕ
code_text (table.Read file) = codes "read failed"
code_text (table.Header file) = codes "L2 header"
code_text (table.Fields file row) = codes "L3 fields"
code_text (table.Puid file row) = codes "L4 puid"
code_text (table.SignatureNumber row) = codes "L5 signature number"
code_text (table.Position row) = codes "L6 position"
code_text (table.Offset row) = codes "L7 offset"
code_text (table.Expression row error) = codes "L8 expression " ++ expression_code_text error
code_text (table.SignatureOfTwo row) = codes "L9 signature of two formats"
code_text (table.TooManySequences row) = codes "L10 too many sequences"
code_text (table.TooManySlots row) = codes "L11 too many slots"
code_text (table.TooManyFormats row) = codes "L12 too many formats"
code_text (table.PriorityUnknown row) = codes "L13 unknown format"
code_text (table.PrioritySelf row) = codes "L14 format over itself"
code_text (table.PriorityTwice row) = codes "L15 pair twice"
code_text (table.PriorityCycle row) = codes "L17 cycle of priorities"
code_text table.OutOfMemory = codes "out of memory"

-- the words of a code, and behind them its place, where it has one
abbrev pub place_words : Option ℕ → List ℕ
place_words None = []
place_words (Some place) = decimal place

abbrev pub code_words : Code → List ℕ
code_words code = code.words.now ++ place_words code.place

-- where in a table a fault stands
abbrev pub site_of : TableError → Site
site_of (table.Read file) = Nowhere
site_of (table.Header file) = File file
site_of (table.Fields file row) = Row file row
site_of (table.Puid file row) = Row file row
site_of (table.SignatureNumber row) = Row Signatures row
site_of (table.Position row) = Row Signatures row
site_of (table.Offset row) = Row Signatures row
site_of (table.Expression row error) = Row Signatures row
site_of (table.SignatureOfTwo row) = Row Signatures row
site_of (table.TooManySequences row) = Row Signatures row
site_of (table.TooManySlots row) = Row Signatures row
site_of (table.TooManyFormats row) = Row Signatures row
site_of (table.PriorityUnknown row) = Row Priorities row
site_of (table.PrioritySelf row) = Row Priorities row
site_of (table.PriorityTwice row) = Row Priorities row
site_of (table.PriorityCycle row) = Row Priorities row
site_of table.OutOfMemory = Nowhere

-- the name of a file of the table
abbrev pub file_name : TableFile → List ℕ
file_name Signatures = codes "signatures"
file_name Priorities = codes "priorities"
