-- The lines of the faults, as the program writes them to standard error.
use Rattle.std.specs.Prelude.{◌≡◌, ◌≢◌, ◌⊎◌, ℕ, List, [], ◌∷◌, ◌++◌, codes, Option}
use Rattle.std.specs.Fmt.{decimal}
use Rattle.sig_command.specs.Statuses.{status_of}
use Rattle.sig_command.specs.declared.fault.Fault.{Fault}
use Rattle.sig_command.specs.declared.fault.Fault.TheVariants as fault
use Rattle.sig_bits.specs.Device.{Adds}
use Rattle.sig_engines.specs.Witnesses.{path_text}
use Rattle.sig_engines.specs.Writing.{cut_text, run_text}
use Rattle.sig_engines.specs.declared.error.CutShort.TheVariants as cut
use Rattle.sig_engines.specs.declared.error.RunError.TheVariants as run
use Rattle.sig_engines.specs.declared.format_names.NamesError.{NamesError}
use Rattle.sig_engines.specs.declared.format_names.NamesError.TheVariants as names
use Rattle.sig_lint.specs.Codes.{code_text, file_name, site_of}
use Rattle.sig_lint.specs.declared.codes.Site.{Site}
use Rattle.sig_lint.specs.declared.codes.Site.TheVariants.{Nowhere, File, Row}

-- what stands before a fault of a table: nothing, `FILE: `, or `FILE row N: `
abbrev pub site_text : Site → List ℕ
site_text Nowhere = []
site_text (File file) = file_name file ++ codes ": "
site_text (Row file row_number) = file_name file ++ codes " row " ++ decimal row_number ++ codes ": "

-- a row of the names of formats
abbrev pub names_row : ℕ → List ℕ
names_row row = codes "names row " ++ decimal row

-- why there are no names of formats
abbrev pub names_text : NamesError → List ℕ
names_text names.Read = codes "read failed"
names_text names.OutOfMemory = codes "out of memory"
names_text names.Header = codes "names: header"
names_text (names.Fields row) = names_row row ++ codes ": fields"
names_text (names.Puid row) = names_row row ++ codes ": puid"
names_text (names.Twice row) = names_row row ++ codes ": pair twice"

-- the text of a fault
abbrev pub fault_text : Fault → List ℕ
fault_text fault.NotText = codes "error: invalid UTF-8 was detected in one or more arguments"
fault_text (fault.CannotOpen name) = codes "cannot open " ++ name.now
fault_text (fault.IsFolder name) = name.now ++ codes ": is a folder"
fault_text (fault.NoFile folder name) = codes "cannot open " ++ path_text folder.now name
fault_text (fault.Table error) = site_text (site_of error) ++ code_text error
fault_text fault.NotInTable = codes "only: not in the table"
fault_text fault.SummaryOfOne = codes "error: the argument '--summary' cannot be used with '--only <PUID>'"
fault_text (fault.Run error) = run_text error
fault_text (fault.CutShort error) = cut_text error
fault_text fault.SomeFiles = []
fault_text fault.FaultyTable = []
fault_text (fault.Names error) = names_text error

-- what ends its line: nothing where there is none, since each fault is told already
abbrev pub line_end : Fault → List ℕ
line_end fault.NotText = 10 ∷ []
line_end (fault.CannotOpen name) = 10 ∷ []
line_end (fault.IsFolder name) = 10 ∷ []
line_end (fault.NoFile folder name) = 10 ∷ []
line_end (fault.Table error) = 10 ∷ []
line_end fault.NotInTable = 10 ∷ []
line_end fault.SummaryOfOne = 10 ∷ []
line_end (fault.Run error) = 10 ∷ []
line_end (fault.CutShort error) = 10 ∷ []
line_end fault.SomeFiles = []
line_end fault.FaultyTable = []
line_end (fault.Names error) = 10 ∷ []

-- its line
abbrev pub fault_line : Fault → List ℕ
fault_line reason = fault_text reason ++ line_end reason

-- the status is the fault's, and what is written grows by the fault's line
pub record Reports (reason : Fault) (status : ℕ) (before after : Option (List ℕ)) : Type 0 where
  pub ends : status ≡ status_of reason
  pub adds : Adds before (fault_line reason) after

-- the line of some fault of this status is written, of one that has a line
abbrev pub ReportsLine : ℕ → Option (List ℕ) → Option (List ℕ) → Type 0
ReportsLine status before after = (reason : Fault) × (reason ≢ fault.SomeFiles) × Reports reason status before after

-- the fault tells of a failed write
abbrev pub TellsWrite : Fault → Type 0
TellsWrite reason = (reason ≡ fault.Run run.Write) ⊎ (reason ≡ fault.CutShort cut.Write)
