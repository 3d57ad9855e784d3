-- The statuses that the program ends with.
use Rattle.std.specs.Prelude.{ℕ}
use Rattle.clap.specs.declared.error.kind.ErrorKind.{ErrorKind}
use Rattle.clap.specs.declared.error.kind.ErrorKind.TheVariants.{DisplayHelp, DisplayVersion}
use Rattle.sig_command.specs.declared.fault.Fault.{Fault}
use Rattle.sig_command.specs.declared.fault.Fault.TheVariants.{CannotOpen, CutShort, FaultyTable, IsFolder, Names, NoFile, NotInTable, NotText, Run, SomeFiles, SummaryOfOne, Table}
use Rattle.sig_engines.specs.declared.format_names.NamesError.{NamesError}
use Rattle.sig_engines.specs.declared.format_names.NamesError.TheVariants as names
use Rattle.sig_table.specs.declared.error.TableError.{TableError}
use Rattle.sig_table.specs.declared.error.TableError.TheVariants.{OutOfMemory, Read}

-- a table that is not read, or for which memory ran out, ends with 3, a refused one with 2
abbrev pub table_status : TableError → ℕ
table_status (Read file) = 3
table_status OutOfMemory = 3
table_status _ = 2

-- so do the names of formats
abbrev pub names_status : NamesError → ℕ
names_status names.Read = 3
names_status names.OutOfMemory = 3
names_status _ = 2

-- 2 for the words and for a refused table, 3 for what is outside
abbrev pub status_of : Fault → ℕ
status_of NotText = 2
status_of (CannotOpen name) = 3
status_of (IsFolder name) = 3
status_of (NoFile folder name) = 3
status_of (Table error) = table_status error
status_of NotInTable = 2
status_of SummaryOfOne = 2
status_of (Run error) = 3
status_of (CutShort error) = 3
status_of SomeFiles = 3
status_of FaultyTable = 2
status_of (Names error) = names_status error

-- help and the version are answered, and all else that clap says is a fault of the words
abbrev pub kind_status : ErrorKind → ℕ
kind_status DisplayHelp = 0
kind_status DisplayVersion = 0
kind_status _ = 2
