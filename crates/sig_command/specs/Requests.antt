-- What comes of what the words ask for: its answers, and its faults.
use Rattle.std.specs.Borrow.{Bor}
use Rattle.std.specs.Prelude.{◌≡◌, ◌≢◌, ◌||◌, ℕ, ◌⊎◌, Bool, false, true, List, Option, None, Some, Err, ⊤, is_some, Ok, option_map, Result}
use Rattle.clap.specs.Words.{Text}
use Rattle.sig_bits.specs.Bytes.{IsBytes}
use Rattle.sig_bits.specs.Device.{Adds}
use Rattle.sig_table.specs.Loading.{records_of, table_of}
use Rattle.sig_table.specs.Puids.{puid_of}
use Rattle.sig_table.specs.Views.{TableView}
use Rattle.sig_table.specs.declared.error.TableError.{TableError}
use Rattle.sig_table.specs.declared.ids.FormatId.{FormatId}
use Rattle.sig_table.specs.declared.puid.Puid.{Puid}
use Rattle.sig_command.specs.CommandLine.{Asks, subcommand_of_words}
use Rattle.sig_engines.specs.Asks.{IsFormatNamed}
use Rattle.sig_engines.specs.Conflicts.{AddsConflicts, AddsFirstPairs, Settles}
use Rattle.sig_command.specs.Faults.{Reports, TellsWrite}
use Rattle.sig_command.specs.Statuses.{status_of}
use Rattle.sig_command.specs.Several.{AddsLinesOfEach, AddsLinesOfFirst, AddsLinesOfSome, AddsTold, AreVisitsOf, IsList, TellsOfEach}
use Rattle.sig_engines.specs.Fates.{AddsFates, AddsFirstFates}
use Rattle.sig_engines.specs.FileTexts.{head_text}
use Rattle.sig_engines.specs.Finding.{AddsFound, KeepsFound, TellsWhy}
use Rattle.sig_engines.specs.FormatNames.{NameList, is_judged, names_of}
use Rattle.sig_engines.specs.Judged.{AddsVerdict}
use Rattle.sig_engines.specs.Lines.{AddsLines}
use Rattle.sig_engines.specs.Linted.{AddsReport}
use Rattle.sig_engines.specs.ManyFiles.{AddsAll, CutsAll, IsPrinted, Printed, StopsAll}
use Rattle.sig_engines.specs.Progress.{AddsProgress, ShowsIf}
use Rattle.sig_engines.specs.Shown.{show_text}
use Rattle.sig_engines.specs.Stores.{CannotMake, Has, HasFolder, HasPriorities, Holding, Holds, HoldsPriorities, IsAny, IsMade, IsTableFault, IsTableOf, Lacks, SomeFailed, SomeWriteFailed}
use Rattle.sig_engines.specs.Visits.{Visit}
use Rattle.sig_engines.specs.Witnessed.{AddsWitness}
use Rattle.sig_engines.specs.Witnesses.{IsWitnessOf, path_text}
use Rattle.sig_engines.specs.declared.ask.ConflictsAsk.{ConflictsAsk}
use Rattle.sig_engines.specs.declared.ask.MatchAsk.{MatchAsk}
use Rattle.sig_engines.specs.declared.error.CutShort.{CutShort as Cut}
use Rattle.sig_engines.specs.declared.error.FileFault.{FileFault}
use Rattle.sig_engines.specs.declared.error.FileFault.TheVariants as file
use Rattle.sig_engines.specs.declared.error.PairsFault.{PairsFault}
use Rattle.sig_engines.specs.declared.format_names.NamesError.{NamesError}
use Rattle.sig_engines.specs.declared.error.PairsFault.TheVariants as pairs
use Rattle.sig_engines.specs.declared.error.RunError.{RunError}
use Rattle.sig_engines.specs.declared.error.RunError.TheVariants.{OutOfMemory, Read, Write}
use Rattle.sig_engines.specs.declared.witness_name.WitnessName.{WitnessName}
use Rattle.sig_command.specs.declared.fault.Fault.{Fault}
use Rattle.sig_command.specs.declared.fault.Fault.TheVariants.{CannotOpen, CutShort, FaultyTable, IsFolder, Names, NoFile, NotInTable, NotText, Run, SomeFiles, SummaryOfOne, Table}
use Rattle.sig_command.specs.declared.args.ConflictsOptions.{ConflictsOptions}
use Rattle.sig_command.specs.declared.args.FileNames.{FileNames}
use Rattle.sig_command.specs.declared.args.FileNames.TheVariants.{Input, Words}
use Rattle.sig_command.specs.declared.args.FileNames.TheVariants as source
use Rattle.sig_command.specs.declared.args.MatchOptions.{MatchOptions}
use Rattle.sig_command.specs.declared.args.Request.{Request}
use Rattle.sig_command.specs.declared.args.Request.TheVariants.{Check, Conflicts, Dead, Find, Lint, Match, MatchMany, Show, Witness}
use Rattle.sig_engines.specs.declared.store.TablePaths.{TablePaths}
use Rattle.sig_engines.specs.declared.progress.Things.TheVariants.{Formats, Pairs, Products}

-- there is no file of the name of the signatures; or there is one, and the priorities have a name, of which there is none
abbrev pub IsUnopened : Holding → TablePaths → Bor (List ℕ) → Type 0
IsUnopened held paths name = ((name ≡ paths.signatures) × Lacks held paths.signatures.now) ⊎ ((paths.priorities ≡ Some name) × Has held paths.signatures.now × Lacks held name.now)

-- the priority file of this name can't be opened, since there is none
abbrev pub LacksPriorities : Holding → Option (Bor Text) → Fault → Type 0
LacksPriorities held None fault = ⊥
LacksPriorities held (Some name) fault = (fault ≡ CannotOpen name) × Lacks held name.now

-- a file of the table can't be opened, or there is no table
abbrev pub IsLoadFault : {R : Type 0} → (R → Bool) → Holding → TablePaths → Fault → Type 0
IsLoadFault failed held paths NotText = ⊥
IsLoadFault failed held paths (CannotOpen name) = IsUnopened held paths name
IsLoadFault failed held paths (IsFolder name) = ⊥
IsLoadFault failed held paths (NoFile folder witness) = ⊥
IsLoadFault failed held paths (Table error) = IsTableFault failed held paths error
IsLoadFault failed held paths NotInTable = ⊥
IsLoadFault failed held paths SummaryOfOne = ⊥
IsLoadFault failed held paths (Run error) = ⊥
IsLoadFault failed held paths (CutShort error) = ⊥
IsLoadFault failed held paths SomeFiles = ⊥
IsLoadFault failed held paths FaultyTable = ⊥
IsLoadFault failed held paths (Names error) = ⊥

-- there is no file of this name, or an engine gives no answer of it: a read failed only where a reader has
abbrev pub IsFileFault : {R : Type 0} → (R → Bool) → Holding → Bor (List ℕ) → Fault → Type 0
IsFileFault failed held name NotText = ⊥
IsFileFault failed held name (CannotOpen other) = (other ≡ name) × Lacks held name.now
IsFileFault failed held name (IsFolder other) = ⊥
IsFileFault failed held name (NoFile folder witness) = ⊥
IsFileFault failed held name (Table error) = ⊥
IsFileFault failed held name NotInTable = ⊥
IsFileFault failed held name SummaryOfOne = ⊥
IsFileFault failed held name (Run Read) = Has held name.now × SomeFailed failed
IsFileFault failed held name (Run Write) = Has held name.now
IsFileFault failed held name (Run OutOfMemory) = ⊤
IsFileFault failed held name (CutShort error) = ⊥
IsFileFault failed held name SomeFiles = ⊥
IsFileFault failed held name FaultyTable = ⊥
IsFileFault failed held name (Names error) = ⊥

-- a folder has this name
abbrev pub IsFolderFault : Holding → Bor (List ℕ) → Fault → Type 0
IsFolderFault held name fault = (fault ≡ IsFolder name) × HasFolder held name.now

-- a list of names can't be opened, or a read of it failed
abbrev pub IsListFault : {R : Type 0} → (R → Bool) → Holding → FileNames → Fault → Type 0
IsListFault failed held (Words words) fault = ⊥
IsListFault failed held (source.List list end) fault = IsFileFault failed held list fault ⊎ IsFolderFault held list fault
IsListFault failed held (Input end) fault = (fault ≡ Run Read) × SomeFailed failed

-- why there is no answer of the file of this name
abbrev pub file_fault : Bor (List ℕ) → FileFault → Fault
file_fault name file.CannotOpen = CannotOpen name
file_fault name (file.Run error) = Run error

-- why the pairs of formats were not all answered
abbrev pub pairs_fault : PairsFault → Fault
pairs_fault (pairs.CannotOpen name) = CannotOpen name
pairs_fault (pairs.NoFile folder name) = NoFile folder name
pairs_fault (pairs.Cut error) = CutShort error

-- these are the names in the file of this name, where it is known what the files hold
abbrev pub AreNamesIn : Holding → List ℕ → NameList → Type 0
AreNamesIn None path names = ⊤
AreNamesIn (Some files) path names = (bytes : List ℕ) × (files.bytes path ≡ Some bytes) × (names_of (records_of bytes) ≡ Ok names)

-- the file of this name is no file of names, where it is known what the files hold; or a read failed
abbrev pub IsNamesError : {R : Type 0} → (R → Bool) → Holding → List ℕ → NamesError → Type 0
IsNamesError failed None path error = is_judged error ≡ false → SomeFailed failed
IsNamesError failed (Some files) path error = (is_judged error ≡ false → SomeFailed failed) × (is_judged error ≡ true → (bytes : List ℕ) × (files.bytes path ≡ Some bytes) × (names_of (records_of bytes) ≡ Err error))

-- the names of formats that these options ask for
abbrev pub AreNamesOf : Holding → Option (Bor Text) → Option NameList → Type 0
AreNamesOf held None None = ⊤
AreNamesOf held None (Some names) = ⊥
AreNamesOf held (Some path) None = ⊥
AreNamesOf held (Some path) (Some names) = AreNamesIn held path.now names

-- these options ask this of each of many files
pub record AsksEach (held : Holding) (options : MatchOptions) (ask : MatchAsk) : Type 0 where
  pub all : ask.all ≡ options.all
  pub csv : ask.csv ≡ options.csv
  pub recursive : ask.recursive ≡ options.recursive
  pub progress : ask.progress ≡ options.progress
  pub summary : ask.summary ≡ options.summary
  pub names : AreNamesOf held options.names (option_map (λ n. n.now) ask.names)

-- so it is of the table in these files, and of what these options ask of each of many files
abbrev pub OfTable : Holding → TablePaths → MatchOptions → (TableView → MatchAsk → Type 0) → Type 0
OfTable held paths options Is = (table : TableView) × IsTableOf held paths table × (ask : MatchAsk) × AsksEach held options ask × Is table ask

-- the file with the names of formats can't be opened, or it is none
abbrev pub IsNamesFaultOf : {R : Type 0} → (R → Bool) → Holding → Option (Bor Text) → Fault → Type 0
IsNamesFaultOf failed held None fault = ⊥
IsNamesFaultOf failed held (Some path) fault = ((fault ≡ CannotOpen path) × Lacks held path.now) ⊎ ((error : NamesError) × (fault ≡ Names error) × IsNamesError failed held path.now error)

-- an engine stopped before its last line
abbrev pub IsCutFault : Fault → Type 0
IsCutFault NotText = ⊥
IsCutFault (CannotOpen name) = ⊥
IsCutFault (IsFolder name) = ⊥
IsCutFault (NoFile folder witness) = ⊥
IsCutFault (Table error) = ⊥
IsCutFault NotInTable = ⊥
IsCutFault SummaryOfOne = ⊥
IsCutFault (Run error) = ⊥
IsCutFault (CutShort error) = ⊤
IsCutFault SomeFiles = ⊥
IsCutFault FaultyTable = ⊥
IsCutFault (Names error) = ⊥

-- the word of `--only` is the PUID of this format; and where it is left out there is none
abbrev pub IsOnly : TableView → Option (Bor Text) → Option FormatId → Type 0
IsOnly table None None = ⊤
IsOnly table None (Some format) = ⊥
IsOnly table (Some word) None = ⊥
IsOnly table (Some word) (Some format) = (puid : Puid) × (puid_of word.now ≡ Some puid) × IsFormatNamed table puid (Some format)

-- the word of `--only` is no PUID, or that of no format of the table
abbrev pub NamesNone : TableView → Option (Bor Text) → Type 0
NamesNone table None = ⊥
NamesNone table (Some word) = (puid : Puid) → puid_of word.now ≡ Some puid → IsFormatNamed table puid None

-- these options ask this of the pairs of the table
pub record AsksPairs (options : ConflictsOptions) (table : TableView) (ask : ConflictsAsk) : Type 0 where
  pub budget : ask.budget ≡ options.budget
  pub hex : ask.hex ≡ options.hex
  pub class : ask.class ≡ options.class
  pub summary : ask.summary ≡ options.summary
  pub only : IsOnly table options.only ask.only
  pub priorities : ask.priorities ≡ options.priorities
  pub files : ask.files ≡ options.files
  pub of_all : options.summary ≡ true → is_some options.only ≡ false

-- the folder or the priority file that these options name can't be made
abbrev pub NamesMade : ConflictsOptions → Bor Text → Type 0
NamesMade options name = (options.files ≡ Some name) ⊎ (options.priorities ≡ Some name)

-- the pairs of formats that are asked for are those of no format of the table; or they are some, and a folder or a file that is asked for can't be made, or the engine stopped before its last line
abbrev pub IsConflictsFault : Holding → TablePaths → ConflictsOptions → Fault → Type 0
IsConflictsFault held paths options NotText = ⊥
IsConflictsFault held paths options (CannotOpen name) = NamesMade options name × CannotMake held name.now
IsConflictsFault held paths options (IsFolder name) = ⊥
IsConflictsFault held paths options (NoFile folder name) = (options.files ≡ Some folder) × CannotMake held (path_text folder.now name) × (t : TableView) × IsTableOf held paths t × (formats : ℕ × ℕ) × IsWitnessOf t formats name
IsConflictsFault held paths options (Table error) = ⊥
IsConflictsFault held paths options NotInTable = (t : TableView) × IsTableOf held paths t × NamesNone t options.only
IsConflictsFault held paths options SummaryOfOne = ⊥
IsConflictsFault held paths options (Run error) = ⊥
IsConflictsFault held paths options (CutShort error) = (t : TableView) × IsTableOf held paths t × (ask : ConflictsAsk) × AsksPairs options t ask
IsConflictsFault held paths options SomeFiles = ⊥
IsConflictsFault held paths options FaultyTable = ⊥
IsConflictsFault held paths options (Names error) = ⊥

-- the two files of the table that is asked of
abbrev pub paths_of : Request → TablePaths
paths_of (Show table) = table
paths_of (Lint table) = table
paths_of (Match all table file) = table
paths_of (MatchMany options table names) = table
paths_of (Find table ask) = table
paths_of (Conflicts table options progress) = table
paths_of (Dead table ask) = table
paths_of (Check table certificate) = table
paths_of (Witness table file) = table

-- these two files are read as a table
abbrev pub HasTable : Holding → TablePaths → Type 0
HasTable held paths = (t : TableView) × IsTableOf held paths t

-- the faults that come behind the load of the table: of the file that is matched or judged, of some of several files, of the file that is made, of the format that is named, and of the engine
abbrev pub IsLaterFault : {R : Type 0} → (R → Bool) → Holding → Request → Fault → Type 0
IsLaterFault failed held (Show table) fault = fault ≡ Run Write
IsLaterFault failed held (Lint table) fault = ⊥
IsLaterFault failed held (Match all table file) fault = IsFileFault failed held file fault ⊎ IsFolderFault held file fault
IsLaterFault failed held (MatchMany options table names) fault = (fault ≡ SomeFiles) ⊎ ((fault ≡ Run Write) ⊎ (IsListFault failed held names fault ⊎ IsNamesFaultOf failed held options.names fault))
IsLaterFault failed held (Find table ask) fault = ((fault ≡ CannotOpen ask.out) × CannotMake held ask.out.now) ⊎ (fault ≡ Run Write)
IsLaterFault failed held (Conflicts table options progress) fault = IsConflictsFault held table options fault
IsLaterFault failed held (Dead table ask) fault = IsCutFault fault
IsLaterFault failed held (Check table certificate) fault = IsFileFault failed held certificate fault
IsLaterFault failed held (Witness table file) fault = IsFileFault failed held file fault

-- both a summary of all formats and the pairs of one are asked for
abbrev pub AsksTwo : Request → Type 0
AsksTwo (Show table) = ⊥
AsksTwo (Lint table) = ⊥
AsksTwo (Match all table file) = ⊥
AsksTwo (MatchMany options table names) = ⊥
AsksTwo (Find table ask) = ⊥
AsksTwo (Conflicts table options progress) = (options.summary ≡ true) × (is_some options.only ≡ true)
AsksTwo (Dead table ask) = ⊥
AsksTwo (Check table certificate) = ⊥
AsksTwo (Witness table file) = ⊥

-- what `lint` writes of the files of these names: a line for each fault, or that there is none
abbrev pub IsReported : Bool → Holding → TablePaths → Option (List ℕ) → Option (List ℕ) → Type 0
IsReported is_faultless held paths before after = (signatures priorities : List ℕ) × Holds held paths.signatures.now signatures × HoldsPriorities held paths.priorities priorities × AddsReport is_faultless signatures priorities before after

-- `load` refuses what the two files hold
abbrev pub IsRefused : Holding → TablePaths → Type 0
IsRefused held paths = (signatures priorities : List ℕ) × Holds held paths.signatures.now signatures × HoldsPriorities held paths.priorities priorities × (error : TableError) × (table_of (records_of signatures) (records_of priorities) ≡ Err error)

-- there are the files of the table that are named
abbrev pub HasBoth : Holding → TablePaths → Type 0
HasBoth held paths = Has held paths.signatures.now × HasPriorities held paths.priorities

-- a file can't be opened or read, or what `lint` tells can't be written, or it has told that the table is refused
abbrev pub IsLintFault : {R : Type 0} → (R → Bool) → Holding → TablePaths → Fault → Type 0
IsLintFault failed held paths NotText = ⊥
IsLintFault failed held paths (CannotOpen name) = IsUnopened held paths name
IsLintFault failed held paths (IsFolder name) = ⊥
IsLintFault failed held paths (NoFile folder witness) = ⊥
IsLintFault failed held paths (Table error) = ⊥
IsLintFault failed held paths NotInTable = ⊥
IsLintFault failed held paths SummaryOfOne = ⊥
IsLintFault failed held paths (Run Read) = HasBoth held paths × SomeFailed failed
IsLintFault failed held paths (Run Write) = HasBoth held paths
IsLintFault failed held paths (Run OutOfMemory) = ⊤
IsLintFault failed held paths (CutShort error) = ⊥
IsLintFault failed held paths SomeFiles = ⊥
IsLintFault failed held paths FaultyTable = IsRefused held paths
IsLintFault failed held paths (Names error) = ⊥

-- the faults of the files of the table: all but `lint` load it
abbrev pub IsFirstFault : {R : Type 0} → (R → Bool) → Holding → Request → Fault → Type 0
IsFirstFault failed held (Show table) fault = IsLoadFault failed held table fault
IsFirstFault failed held (Lint table) fault = IsLintFault failed held table fault
IsFirstFault failed held (Match all table file) fault = IsLoadFault failed held table fault
IsFirstFault failed held (MatchMany options table names) fault = IsLoadFault failed held table fault
IsFirstFault failed held (Find table ask) fault = IsLoadFault failed held table fault
IsFirstFault failed held (Conflicts table options progress) fault = IsLoadFault failed held table fault
IsFirstFault failed held (Dead table ask) fault = IsLoadFault failed held table fault
IsFirstFault failed held (Check table certificate) fault = IsLoadFault failed held table fault
IsFirstFault failed held (Witness table file) fault = IsLoadFault failed held table fault

-- there is no table; or memory ran out; or there is one, and the fault comes behind its load; or two things are asked for that exclude each other
abbrev pub IsFaultOf : {R : Type 0} → (R → Bool) → Holding → Request → Fault → Type 0
IsFaultOf failed held request fault =
    IsFirstFault failed held request fault ⊎ ((fault ≡ Run OutOfMemory) ⊎ ((HasTable held (paths_of request) × IsLaterFault failed held request fault) ⊎ ((fault ≡ SummaryOfOne) × AsksTwo request)))

-- what is written grows by the canonical files of a table, by what is told of one without a fault, by the lines that are asked for of what a file hits in a table, by those of each of several files, by the lines of what was found, by those of the pairs of formats of a table, by those of its formats that no file can leave, by the line of the verdict on a certificate, or by that of a file that is ambiguous or not; the first four can't be a no
abbrev pub Answers : Holding → Request → Bool → Option (List ℕ) → Option (List ℕ) → Type 0
Answers held (Show table) is_yes before after = (is_yes ≡ true) × (t : TableView) × IsTableOf held table t × Adds before (show_text t) after
Answers held (Lint table) is_yes before after = (is_yes ≡ true) × IsReported true held table before after
Answers held (Match all table name) is_yes before after = (is_yes ≡ true) × (t : TableView) × IsTableOf held table t × (file : List ℕ) × IsBytes file × Holds held name.now file × AddsLines all t file before after
Answers held (MatchMany options table names) is_yes before after = (is_yes ≡ true) × OfTable held table options (λ t ask. AddsLinesOfEach ask t held (AreVisitsOf ask held names) before after)
Answers held (Find table ask) is_yes before after = (t : TableView) × IsTableOf held table t × AddsFound is_yes ask.hex t ask.budget before after
Answers held (Conflicts table options progress) is_yes before after = (t : TableView) × IsTableOf held table t × (ask : ConflictsAsk) × AsksPairs options t ask × (refused : List ℕ) × AddsConflicts IsAny is_yes refused ask t before after
Answers held (Dead table ask) is_yes before after = (t : TableView) × IsTableOf held table t × AddsFates is_yes ask.hex t ask.budget before after
Answers held (Check table name) is_yes before after = (t : TableView) × IsTableOf held table t × (certificate : List ℕ) × IsBytes certificate × Holds held name.now certificate × AddsVerdict is_yes t certificate before after
Answers held (Witness table name) is_yes before after = (t : TableView) × IsTableOf held table t × (file : List ℕ) × IsBytes file × Holds held name.now file × AddsWitness is_yes t file before after

-- what is written grows by an answer to what the words ask for, a yes or a no
abbrev pub AnswersWords : Holding → List Text → Bool → Option (List ℕ) → Option (List ℕ) → Type 0
AnswersWords held words is_yes before after = (request : Request) × Asks (subcommand_of_words words) request × Answers held request is_yes before after

-- of a search, what is written grows by the lines of what is found, and a file of the name that is asked for was made of the bytes of just that; of pairs of formats the files that are asked for were made; of all else it says nothing
abbrev pub MakesOut : {F : Type 0} → (name_of written : F → Option (List ℕ)) → (F → Bool) → Holding → Request → Bool → (before after : Option (List ℕ)) → Type 0
MakesOut name_of written failed held (Show table) is_yes before after = ⊤
MakesOut name_of written failed held (Lint table) is_yes before after = ⊤
MakesOut name_of written failed held (Match all table path) is_yes before after = ⊤
MakesOut name_of written failed held (MatchMany options table names) is_yes before after = ⊤
MakesOut name_of written failed held (Find table ask) is_yes before after = (t : TableView) × IsTableOf held table t × KeepsFound (IsMade name_of written failed held ask.out.now) is_yes ask.hex t ask.budget before after
MakesOut name_of written failed held (Conflicts table options progress) is_yes before after = (t : TableView) × IsTableOf held table t × (ask : ConflictsAsk) × AsksPairs options t ask × (refused : List ℕ) × AddsConflicts (IsMade name_of written failed held) is_yes refused ask t before after
MakesOut name_of written failed held (Dead table ask) is_yes before after = ⊤
MakesOut name_of written failed held (Check table path) is_yes before after = ⊤
MakesOut name_of written failed held (Witness table path) is_yes before after = ⊤

-- the files that the words ask for were made
abbrev pub MakesWords : {F : Type 0} → (name_of written : F → Option (List ℕ)) → (F → Bool) → Holding → List Text → Bool → (before after : Option (List ℕ)) → Type 0
MakesWords name_of written failed held words is_yes before after = (request : Request) × Asks (subcommand_of_words words) request × MakesOut name_of written failed held request is_yes before after

-- the lines of all files that have no fault are all that is written; or a list was not read whole, and they are those of the first files
abbrev pub CutsMany : MatchAsk → (Visit → Printed → Type 0) → FileNames → (List Visit → Type 0) → (before after : Option (List ℕ)) → Type 0
CutsMany ask IsOf names Are before after = AddsLinesOfSome (head_text ask.csv) IsOf Are before after ⊎ (IsList names × AddsLinesOfFirst (head_text ask.csv) IsOf Are before after)

-- the pairs of formats of a table, and its formats, are written one by one, so that the lines of the first ones can be all that is written; and of several files those without a fault can be all that are written
abbrev pub IsCutRequest : {R : Type 0} → (R → Bool) → Holding → Request → Option (List ℕ) → Option (List ℕ) → Type 0
IsCutRequest failed held (Show table) before after = ⊥
IsCutRequest failed held (Lint table) before after = ⊥
IsCutRequest failed held (Match all table path) before after = ⊥
IsCutRequest failed held (MatchMany options table names) before after = OfTable held table options (λ t ask. CutsMany ask (IsPrinted failed ask t held) names (AreVisitsOf ask held names) before after)
IsCutRequest failed held (Find table ask) before after = ⊥
IsCutRequest failed held (Conflicts table options progress) before after = (t : TableView) × IsTableOf held table t × (ask : ConflictsAsk) × AsksPairs options t ask × AddsFirstPairs ask t before after
IsCutRequest failed held (Dead table ask) before after = (t : TableView) × IsTableOf held table t × AddsFirstFates ask.hex t ask.budget before after
IsCutRequest failed held (Check table path) before after = ⊥
IsCutRequest failed held (Witness table path) before after = ⊥

-- the words ask for these pairs or files, and what is written grows by the lines of some of them
abbrev pub CutsWords : {R : Type 0} → (R → Bool) → Holding → List Text → Option (List ℕ) → Option (List ℕ) → Type 0
CutsWords failed held words before after = (request : Request) × Asks (subcommand_of_words words) request × IsCutRequest failed held request before after

-- so for some words, where it is not known what the files hold
abbrev pub CutsSomeWords : {R : Type 0} → (R → Bool) → Option (List ℕ) → Option (List ℕ) → Type 0
CutsSomeWords failed before after = (words : List Text) × CutsWords failed None words before after

-- `lint` is asked for, and what is written grows by a line for each fault of the table
abbrev pub ListsRequest : Holding → Request → Option (List ℕ) → Option (List ℕ) → Type 0
ListsRequest held request before after = (table : TablePaths) × (request ≡ Lint table) × IsReported false held table before after

-- so for what the words ask for
abbrev pub ListsWords : Holding → List Text → Option (List ℕ) → Option (List ℕ) → Type 0
ListsWords held words before after = (request : Request) × Asks (subcommand_of_words words) request × ListsRequest held request before after

-- so for some words, where it is not known what the files hold
abbrev pub ListsSomeWords : Option (List ℕ) → Option (List ℕ) → Type 0
ListsSomeWords before after = (words : List Text) × ListsWords None words before after

-- where `lint` ends by the faults of a table, they are told; `is_failed` says whether the output has failed
abbrev pub ListsIf : Holding → Request → Fault → Bool → Option (List ℕ) → Option (List ℕ) → Type 0
ListsIf held (Show table) fault is_failed before after = ⊤
ListsIf held (Lint table) fault is_failed before after = fault ≡ FaultyTable → (is_failed ≡ false) × IsReported false held table before after
ListsIf held (Match all table file) fault is_failed before after = ⊤
ListsIf held (MatchMany options table names) fault is_failed before after = ⊤
ListsIf held (Find table ask) fault is_failed before after = ⊤
ListsIf held (Conflicts table options progress) fault is_failed before after = ⊤
ListsIf held (Dead table ask) fault is_failed before after = ⊤
ListsIf held (Check table certificate) fault is_failed before after = ⊤
ListsIf held (Witness table file) fault is_failed before after = ⊤

-- unless a write failed, the output is as it was, or the answer to the request is cut short; `written` tells what an output has written, and `is_failed` whether it has failed
abbrev pub KeepsOrCuts : {R W : Type 0} → (R → Bool) → Holding → Request → (W → Bool) → (W → Option (List ℕ)) → (before after : W) → Type 0
KeepsOrCuts failed held request is_failed written before after =
    is_failed after ≡ false → (after ≡ before) ⊎ IsCutRequest failed held request (written before) (written after)

-- the output has an answer to the request, a yes or a no; `is_failed` tells whether an output has failed, and `written` what it has written
pub record HasAnswer {W : Type 0} (held : Holding) (request : Request) (is_failed : W → Bool) (written : W → Option (List ℕ)) (before after : W) (is_yes : Bool) : Type 0 where
  pub answers : Answers held request is_yes (written before) (written after)
  pub shown : is_failed after ≡ false

-- a write failed: to the output, or to a file that the request makes; `is_failed` says whether the output has failed
abbrev pub HasFailedWrite : {F : Type 0} → (F → Bool) → Bool → Request → Type 0
HasFailedWrite failed is_failed (Show table) = is_failed ≡ true
HasFailedWrite failed is_failed (Lint table) = is_failed ≡ true
HasFailedWrite failed is_failed (Match all table path) = is_failed ≡ true
HasFailedWrite failed is_failed (MatchMany options table names) = is_failed ≡ true
HasFailedWrite failed is_failed (Find table ask) = SomeWriteFailed failed is_failed
HasFailedWrite failed is_failed (Conflicts table options progress) = SomeWriteFailed failed is_failed
HasFailedWrite failed is_failed (Dead table ask) = is_failed ≡ true
HasFailedWrite failed is_failed (Check table path) = is_failed ≡ true
HasFailedWrite failed is_failed (Witness table path) = is_failed ≡ true

-- this is so, unless the fault is one that comes behind the first write of the request
abbrev pub UnlessWriting : Request → Fault → Type 0 → Type 0
UnlessWriting (Show table) fault Same = fault ≢ Run Write → Same
UnlessWriting (Lint table) fault Same = fault ≢ Run Write → fault ≢ FaultyTable → Same
UnlessWriting (Match all table path) fault Same = fault ≢ Run Write → Same
UnlessWriting (MatchMany options table names) fault Same = ((e : RunError) → fault ≢ Run e) → fault ≢ SomeFiles → Same
UnlessWriting (Find table ask) fault Same = fault ≢ Run Write → Same
UnlessWriting (Conflicts table options progress) fault Same = ((e : Cut) → fault ≢ CutShort e) → ((folder : Bor Text) (name : WitnessName) → fault ≢ NoFile folder name) → Same
UnlessWriting (Dead table ask) fault Same = ((e : Cut) → fault ≢ CutShort e) → Same
UnlessWriting (Check table path) fault Same = fault ≢ Run Write → Same
UnlessWriting (Witness table path) fault Same = fault ≢ Run Write → Same

-- the request has this fault, and so the output is as it was, or has what is told or cut short
pub record HasFault {R F W : Type 0} (failed : R → Bool) (write_failed : F → Bool) (held : Holding) (request : Request) (is_failed : W → Bool) (written : W → Option (List ℕ)) (before after : W) (fault : Fault) : Type 0 where
  pub is : IsFaultOf failed held request fault
  pub write : TellsWrite fault → HasFailedWrite write_failed (is_failed after) request
  pub untouched : UnlessWriting request fault (after ≡ before)
  pub lists : ListsIf held request fault (is_failed after) (written before) (written after)
  pub whole : fault ≢ FaultyTable → KeepsOrCuts failed held request is_failed written before after

-- of pairs of formats it is said which forced ones are not in the priority file, behind the progress, where that is asked for
abbrev pub ShowsRefused : Holding → TablePaths → ConflictsOptions → Bool → Option (List ℕ) → Option (List ℕ) → Type 0
ShowsRefused held paths options progress before after =
    (t : TableView) × IsTableOf held paths t × (ask : ConflictsAsk) × AsksPairs options t ask × (is_yes : Bool) × (out_before : Option (List ℕ)) × (out_after : Option (List ℕ)) × Settles IsAny progress is_yes ask t out_before out_after false before after

-- a search over products gave up, and behind its progress, where that is asked for, it is said why
abbrev pub ShowsReason : Holding → TablePaths → (progress hex : Bool) → ℕ → Option (List ℕ) → Option (List ℕ) → Type 0
ShowsReason held paths progress hex budget before after =
    (t : TableView) × IsTableOf held paths t × (out_before : Option (List ℕ)) × (out_after : Option (List ℕ)) × TellsWhy progress hex t budget out_before out_after before after

-- unless a write failed, a search over products, pairs or formats shows its progress where that is asked for, and one over products that is answered can show why it gave up; of several files each of the first that has a fault has a line, but only where there is no answer; nothing else shows any
abbrev pub Shows : {R : Type 0} → (R → Bool) → Holding → Request → Bool → Bool → Option (List ℕ) → Option (List ℕ) → Type 0
Shows failed held (Show table) is_answered is_failed before after = ⊥
Shows failed held (Lint table) is_answered is_failed before after = ⊥
Shows failed held (Match all table path) is_answered is_failed before after = ⊥
Shows failed held (MatchMany options table names) is_answered is_failed before after = ((is_answered ≡ false) ⊎ ((options.progress || options.summary) ≡ true)) × OfTable held table options (λ t ask. is_failed ≡ false → AddsTold ask (IsPrinted failed ask t held) (AreVisitsOf ask held names) before after)
Shows failed held (Find table ask) is_answered is_failed before after = ((ask.progress ≡ true) × (is_failed ≡ false → AddsProgress Products before after)) ⊎ ((is_answered ≡ true) × (is_failed ≡ false → ShowsReason held table ask.progress ask.hex ask.budget before after))
Shows failed held (Conflicts table options progress) is_answered is_failed before after = ((progress ≡ true) × (is_failed ≡ false → AddsProgress Pairs before after)) ⊎ ((is_answered ≡ true) × (is_some options.priorities ≡ true) × (is_failed ≡ false → ShowsRefused held table options progress before after))
Shows failed held (Dead table ask) is_answered is_failed before after = (ask.progress ≡ true) × (is_failed ≡ false → AddsProgress Formats before after)
Shows failed held (Check table path) is_answered is_failed before after = ⊥
Shows failed held (Witness table path) is_answered is_failed before after = ⊥

-- the words ask for progress or for several files, and this is shown
abbrev pub ShowsWords : {R : Type 0} → (R → Bool) → Holding → List Text → Bool → Bool → Option (List ℕ) → Option (List ℕ) → Type 0
ShowsWords failed held words is_answered is_failed before after = (request : Request) × Asks (subcommand_of_words words) request × Shows failed held request is_answered is_failed before after

-- so for some words, where it is not known what the files hold
abbrev pub ShowsSomeWords : {R : Type 0} → (R → Bool) → Bool → Bool → Option (List ℕ) → Option (List ℕ) → Type 0
ShowsSomeWords failed is_answered is_failed before after = (words : List Text) × ShowsWords failed None words is_answered is_failed before after

-- the error output is as it was, or shows what the request shows
abbrev pub TellsOf : {R E : Type 0} → (R → Bool) → Holding → Request → Bool → (E → Bool) → (E → Option (List ℕ)) → (before after : E) → Type 0
TellsOf failed held request is_answered is_failed written before after =
    (after ≡ before) ⊎ Shows failed held request is_answered (is_failed after) (written before) (written after)

-- where some of many files have a fault, both outputs are of the same files, of all of them in their order; where a write failed, both are of the first ones, and so where a list is not read whole; nothing else ends the run
abbrev pub TellsMany : MatchAsk → (Visit → Printed → Type 0) → (List Visit → Type 0) → (Listed : Type 0) → Fault → (before after : Option (List ℕ)) (err_failed : Bool) (err_before err_after : Option (List ℕ)) → Type 0
TellsMany ask IsOf Are Listed SomeFiles before after err_failed err_before err_after = AddsAll ask IsOf Are before after err_failed err_before err_after false
TellsMany ask IsOf Are Listed (Run Write) before after err_failed err_before err_after = CutsAll ask IsOf Are before after err_failed err_before err_after
TellsMany ask IsOf Are Listed (Run Read) before after err_failed err_before err_after = Listed × StopsAll ask IsOf Are before after err_failed err_before err_after
TellsMany ask IsOf Are Listed (Run OutOfMemory) before after err_failed err_before err_after = Listed × StopsAll ask IsOf Are before after err_failed err_before err_after
TellsMany ask IsOf Are Listed _ before after err_failed err_before err_after = ⊥

-- the fault is none that a run alone can have
pub record IsBeforeRun (fault : Fault) : Type 0 where
  pub files : fault ≢ SomeFiles
  pub write : fault ≢ Run Write
  pub read : fault ≢ Run Read

-- a run ends with this fault, or both outputs are as they were before it
abbrev pub TellsRun : {W E : Type 0} → MatchAsk → (Visit → Printed → Type 0) → (List Visit → Type 0) → (Listed : Type 0) → Fault → (W → Option (List ℕ)) → (before after : W) → (E → Bool) → (E → Option (List ℕ)) → (err_before err_after : E) → Type 0
TellsRun ask IsOf Are Listed fault written before after err_failed err_written err_before err_after =
    (IsBeforeRun fault × (after ≡ before) × (err_after ≡ err_before)) ⊎ TellsMany ask IsOf Are Listed fault (written before) (written after) (err_failed err_after) (err_written err_before) (err_written err_after)

-- the faults of a run
abbrev pub IsRunFault : Fault → (Other : Type 0) → Type 0
IsRunFault fault Other = (fault ≡ SomeFiles) ⊎ ((fault ≡ Run Write) ⊎ ((fault ≡ Run OutOfMemory) ⊎ Other))

-- what a run comes to
abbrev pub answer_of : Result Bool RunError → Result Bool Fault
answer_of (Ok true) = Ok true
answer_of (Ok false) = Err SomeFiles
answer_of (Err error) = Err (Run error)

-- what both outputs are of before the line of a fault: where there are several files, of the same ones
abbrev pub Joins : {R : Type 0} → (R → Bool) → Holding → Request → Fault → (before after : Option (List ℕ)) (err_failed : Bool) (err_before err_after : Option (List ℕ)) → Type 0
Joins failed held (Show table) fault before after err_failed err_before err_after = ⊤
Joins failed held (Lint table) fault before after err_failed err_before err_after = ⊤
Joins failed held (Match all table path) fault before after err_failed err_before err_after = ⊤
Joins failed held (MatchMany options table names) fault before after err_failed err_before err_after =
    (IsBeforeRun fault × (err_after ≡ err_before)) ⊎ OfTable held table options (λ t ask. TellsMany ask (IsPrinted failed ask t held) (AreVisitsOf ask held names) (IsList names) fault before after err_failed err_before err_after)
Joins failed held (Find table ask) fault before after err_failed err_before err_after = ⊤
Joins failed held (Conflicts table options progress) fault before after err_failed err_before err_after = ⊤
Joins failed held (Dead table ask) fault before after err_failed err_before err_after = ⊤
Joins failed held (Check table path) fault before after err_failed err_before err_after = ⊤
Joins failed held (Witness table path) fault before after err_failed err_before err_after = ⊤

-- the same of the two outputs, by what each has written
abbrev pub JoinsBoth : {R W E : Type 0} → (R → Bool) → Holding → Request → (W → Option (List ℕ)) → (before after : W) → (E → Bool) → (E → Option (List ℕ)) → (err_before err_after : E) → Fault → Type 0
JoinsBoth failed held request written before after err_failed err_written err_before err_after fault =
    Joins failed held request fault (written before) (written after) (err_failed err_after) (err_written err_before) (err_written err_after)

-- what is written grows by the rest, perhaps behind what is shown
pub record Behind (Shown Rest : Option (List ℕ) → Option (List ℕ) → Type 0) (before after : Option (List ℕ)) : Type 0 where
  pub mid : Option (List ℕ)
  pub shown : (mid ≡ before) ⊎ Shown before mid
  pub rest : Rest mid after

-- what the error output has before the line of this fault of the request, and what the output has grown by then
abbrev pub ShowsBefore : {R : Type 0} → (R → Bool) → Holding → Request → Fault → (before after err_before err_after : Option (List ℕ)) → Type 0
ShowsBefore failed held request fault before after err_before err_after = ((err_after ≡ err_before) ⊎ Shows failed held request false false err_before err_after) × Joins failed held request fault before after false err_before err_after

-- the line of this fault of the request is reported, behind what it shows
abbrev pub ReportsLineOf : {R : Type 0} → (R → Bool) → Holding → Request → Fault → ℕ → (before after err_before err_after : Option (List ℕ)) → Type 0
ReportsLineOf failed held request reason status before after err_before err_after = (mid : Option (List ℕ)) × ShowsBefore failed held request reason before after err_before mid × Reports reason status mid err_after

-- the status is that of a fault of the request, a failed write is told only where one failed, the faults of a table are told where they are the reason, and the line of the fault is reported, unless a write to the error output failed
pub record ReportsFaultOf {R : Type 0} (failed : R → Bool) (WriteFailed : Request → Type 0) (held : Holding) (request : Request) (status : ℕ) (before after : Option (List ℕ)) (err_failed : Bool) (err_before err_after : Option (List ℕ)) : Type 0 where
  pub reason : Fault
  pub is : IsFaultOf failed held request reason
  pub write : TellsWrite reason → WriteFailed request
  pub ends : status ≡ status_of reason
  pub lists : reason ≡ FaultyTable → ListsRequest held request before after
  pub line : err_failed ≡ false → ReportsLineOf failed held request reason status before after err_before err_after

-- so for what the words ask for
abbrev pub ReportsFaultOfWords : {R : Type 0} → (R → Bool) → (Request → Type 0) → Holding → List Text → ℕ → (before after : Option (List ℕ)) (err_failed : Bool) (err_before err_after : Option (List ℕ)) → Type 0
ReportsFaultOfWords failed WriteFailed held words status before after err_failed err_before err_after = (request : Request) × Asks (subcommand_of_words words) request × ReportsFaultOf failed WriteFailed held request status before after err_failed err_before err_after

-- with an answer the error output shows progress just where that is asked for; and with a no of a search over products it is said why the search gave up, unless a write failed
abbrev pub ShowsAsked : {E : Type 0} → Holding → Request → Bool → (out_before out_after : Option (List ℕ)) → Bool → (before after : E) → Option (List ℕ) → Option (List ℕ) → Type 0
ShowsAsked held (Show table) is_yes out_before out_after is_failed before after written written_after = after ≡ before
ShowsAsked held (Lint table) is_yes out_before out_after is_failed before after written written_after = after ≡ before
ShowsAsked held (Match all table path) is_yes out_before out_after is_failed before after written written_after = after ≡ before
ShowsAsked held (MatchMany options table names) is_yes out_before out_after is_failed before after written written_after =
    ((options.progress || options.summary) ≡ false → after ≡ before) × OfTable held table options (λ t ask. is_failed ≡ false → TellsOfEach ask t held (AreVisitsOf ask held names) out_before out_after written written_after)
ShowsAsked held (Find table ask) true out_before out_after is_failed before after written written_after = ShowsIf ask.progress Products is_failed before after written written_after
ShowsAsked held (Find table ask) false out_before out_after is_failed before after written written_after =
    is_failed ≡ false → (t : TableView) × IsTableOf held table t × TellsWhy ask.progress ask.hex t ask.budget out_before out_after written written_after
ShowsAsked held (Conflicts table options progress) is_yes out_before out_after is_failed before after written written_after =
    (options.priorities ≡ None → ShowsIf progress Pairs is_failed before after written written_after)
    × ((t : TableView) × IsTableOf held table t × (ask : ConflictsAsk) × AsksPairs options t ask × Settles IsAny progress is_yes ask t out_before out_after is_failed written written_after)
ShowsAsked held (Dead table ask) is_yes out_before out_after is_failed before after written written_after = ShowsIf ask.progress Formats is_failed before after written written_after
ShowsAsked held (Check table path) is_yes out_before out_after is_failed before after written written_after = after ≡ before
ShowsAsked held (Witness table path) is_yes out_before out_after is_failed before after written written_after = after ≡ before

-- so for what the words ask for
abbrev pub ShowsAskedWords : {E : Type 0} → Holding → List Text → Bool → (out_before out_after : Option (List ℕ)) → Bool → (before after : E) → Option (List ℕ) → Option (List ℕ) → Type 0
ShowsAskedWords held words is_yes out_before out_after is_failed before after written written_after =
    (request : Request) × Asks (subcommand_of_words words) request × ShowsAsked held request is_yes out_before out_after is_failed before after written written_after
