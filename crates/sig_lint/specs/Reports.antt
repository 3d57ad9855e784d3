-- What is told of two files: a line for each fault, or that there is none, and what is hardly meant.
use Rattle.std.specs.Prelude.{◌≡◌, ℕ, Bool, true, false, List, [], ◌∷◌, ◌++◌, codes, flat_map, length, map, Option, Some, None, Ok, Err, slice_get}
use Rattle.std.specs.Fmt.{decimal}
use Rattle.sig_table.specs.Canonical.{name_of}
use Rattle.sig_table.specs.Judging.{Records}
use Rattle.sig_table.specs.Loading.{table_of}
use Rattle.sig_table.specs.Tables.{IsTable}
use Rattle.sig_table.specs.Views.{SignatureView, TableView}
use Rattle.sig_table.specs.declared.puid.Puid.{Puid}
use Rattle.sig_lint.specs.Codes.{code_text, file_name, site_of}
use Rattle.sig_lint.specs.Details.{details_of}
use Rattle.sig_lint.specs.EqualRows.{equal_rows}
use Rattle.sig_lint.specs.FaultViews.{FaultView}
use Rattle.sig_lint.specs.Faults.{lint_faults}
use Rattle.sig_lint.specs.Warnings.{places_of_gaps}
use Rattle.sig_lint.specs.declared.codes.Site.{Site}
use Rattle.sig_lint.specs.declared.codes.Site.TheVariants.{Nowhere, File, Row}

-- what stands before a fault on this line of its file: `FILE line L: `, or `FILE line L row N: `
abbrev pub line_site_text : ℕ → Site → List ℕ
line_site_text line Nowhere = []
line_site_text line (File file) = file_name file ++ codes " line " ++ decimal line ++ codes ": "
line_site_text line (Row file row_number) = file_name file ++ codes " line " ++ decimal line ++ codes " row " ++ decimal row_number ++ codes ": "

-- a fault, and the number of the line on which its record begins
pub record LinedFault : Type 0 where
  pub line : ℕ
  pub fault : FaultView

-- its line: where it stands, its code, and its text
unfoldable pub fault_line : LinedFault → List ℕ
fault_line told =
    line_site_text told.line (site_of told.fault.error) ++ code_text told.fault.error ++ codes ": " ++ details_of told.fault ++ 10 ∷ []

-- the text is a line of each fault, in their order; of the numbers of lines nothing is said
pub record AreFaultLines (faults : List FaultView) (text : List ℕ) : Type 0 where
  pub told : List LinedFault
  pub are : map (λ t. t.fault) told ≡ faults
  pub is : text ≡ flat_map fault_line told

-- the name of a signature: its number, and its format's PUID
abbrev pub signature_words : List Puid → Option SignatureView → List ℕ
signature_words formats None = []
signature_words formats (Some s) = codes "signature " ++ decimal s.number ++ codes " of " ++ name_of formats s.format

abbrev pub signature_name : TableView → ℕ → List ℕ
signature_name table place = signature_words table.formats (slice_get table.signatures place)

-- the warning of a signature of gaps alone
unfoldable pub gaps_line : TableView → ℕ → List ℕ
gaps_line table place = codes "warning: " ++ signature_name table place ++ codes " has gaps alone\n"

-- the warning of a signature with a row of another format's signature
unfoldable pub equal_line : TableView → ℕ × ℕ → List ℕ
equal_line table pair = codes "warning: " ++ signature_name table pair.0 ++ codes " has a row of " ++ signature_name table pair.1 ++ codes "\n"

-- the warnings of a table
abbrev pub gaps_lines : TableView → List ℕ
gaps_lines table = flat_map (gaps_line table) (places_of_gaps table.signatures (length table.signatures))

abbrev pub warning_lines : TableView → List ℕ
warning_lines table = gaps_lines table ++ flat_map (equal_line table) (equal_rows table)

-- what is told of a table
abbrev pub faultless_text : TableView → List ℕ
faultless_text table = codes "no fault\n" ++ warning_lines table

-- the files are those of a table, and the text says that they have no fault
pub record TellsNone (signatures priorities : Records) (text : List ℕ) : Type 0 where
  pub table : TableView
  pub limits : IsTable table
  pub loads : table_of signatures priorities ≡ Ok table
  pub is : text ≡ faultless_text table

-- there are faults, of which `load` answers the first, and the text is a line of each
pub record TellsFaults (signatures priorities : Records) (text : List ℕ) : Type 0 where
  pub first : FaultView
  pub later : List FaultView
  pub are : lint_faults signatures priorities ≡ first ∷ later
  pub loads : table_of signatures priorities ≡ Err first.error
  pub lines : AreFaultLines (lint_faults signatures priorities) text

-- what is told of two files, with or without a fault
abbrev pub Tells : Bool → Records → Records → List ℕ → Type 0
Tells true signatures priorities text = TellsNone signatures priorities text
Tells false signatures priorities text = TellsFaults signatures priorities text
