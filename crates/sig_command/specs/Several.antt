-- What is written of files by their names: of several, or of one with `--with-names`.
use Rattle.std.specs.Prelude.{◌≡◌, ◌≤◌, ℕ, Bool, false, List, [], ◌++◌, ◌∷◌, All, None, Option, Some, Ok, Err, length, map, ⊤}
use Rattle.sig_bits.specs.Device.{Adds}
use Rattle.sig_table.specs.Views.{TableView}
use Rattle.sig_core.specs.declared.results.Hit.{Hit}
use Rattle.sig_engines.specs.FileTexts.{file_text, head_text}
use Rattle.sig_engines.specs.Listed.{listed}
use Rattle.sig_engines.specs.declared.ask.MatchAsk.{MatchAsk}
use Rattle.sig_engines.specs.ManyFiles.{AreLinesOf, Printed, PrintedFile, is_whole, out_texts, run_text, summary_text, tally_of, visits_of}
use Rattle.sig_engines.specs.Stores.{Holding}
use Rattle.sig_engines.specs.Tallies.{none_yet}
use Rattle.sig_engines.specs.Visits.{AreVisits, Visit}
use Rattle.sig_command.specs.declared.args.FileNames.{FileNames}
use Rattle.sig_command.specs.declared.args.FileNames.TheVariants.{Input, Words}
use Rattle.sig_command.specs.declared.args.FileNames.TheVariants as source

-- the text is one of each thing, in their order, one behind another
abbrev pub AreTexts : {X : Type 0} → (X → List ℕ → Type 0) → List X → List ℕ → Type 0
AreTexts IsOf [] text = text ≡ []
AreTexts IsOf (x ∷ xs) text = (first : List ℕ) × (rest : List ℕ) × (text ≡ first ++ rest) × IsOf x first × AreTexts IsOf xs rest

-- the text is one line or one record of the file of this name: of one hit, or of none
abbrev pub IsOneLineOf : MatchAsk → TableView → Visit → List ℕ → Type 0
IsOneLineOf ask table visit text = (hits : List Hit) × (length hits ≤ 1) × (text ≡ file_text ask.csv ask.names visit.name table hits)

-- the text has the lines or the records of a file that is matched
abbrev pub AreLinesAt : MatchAsk → TableView → Holding → Visit → List ℕ → Type 0
AreLinesAt ask table held visit text = (visit.told ≡ None) × (count : ℕ) × AreLinesOf ask table held visit.name count text

-- what is written grows by the lines or the records of each file, in the order of their names; `Are` says which names have their turn
pub record AddsLinesOfEach (ask : MatchAsk) (table : TableView) (held : Holding) (Are : List Visit → Type 0) (before after : Option (List ℕ)) : Type 0 where
  pub visits : List Visit
  pub are : Are visits
  pub text : List ℕ
  pub are_lines : AreTexts (AreLinesAt ask table held) visits text
  pub adds : Adds before (head_text ask.csv ++ text) after

-- the same, where each file has one line or one record: of one hit, or of none
pub record AddsOneLineOfEach (ask : MatchAsk) (table : TableView) (Are : List Visit → Type 0) (before after : Option (List ℕ)) : Type 0 where
  pub visits : List Visit
  pub are : Are visits
  pub text : List ℕ
  pub are_lines : AreTexts (IsOneLineOf ask table) visits text
  pub adds : Adds before (head_text ask.csv ++ text) after

-- the file is matched, and this is its answer
abbrev pub IsAnswered : MatchAsk → TableView → Holding → Visit → Printed → Type 0
IsAnswered ask table held visit (Ok answer) = (visit.told ≡ None) × AreLinesOf ask table held visit.name answer.hits answer.text
IsAnswered ask table held visit (Err fault) = ⊥

-- of all files both outputs have what is asked for: each file has an answer
pub record TellsOfEach (ask : MatchAsk) (table : TableView) (held : Holding) (Are : List Visit → Type 0) (before after err_before err_after : Option (List ℕ)) : Type 0 where
  pub files : List PrintedFile
  pub are : Are (visits_of files)
  pub each : All (λ f. IsAnswered ask table held f.visit f.printed) files
  pub adds : Adds before (head_text ask.csv ++ out_texts files) after
  pub tells : Adds err_before (run_text ask.progress files ++ summary_text ask.summary (tally_of none_yet files)) err_after

-- these are the names in the list of this name, where it is known what the files hold
abbrev pub AreListedIn : Holding → List ℕ → ℕ → List (List ℕ) → Type 0
AreListedIn None list end names = ⊤
AreListedIn (Some files) list end names = (bytes : List ℕ) × (files.bytes list ≡ Some bytes) × (names ≡ listed end bytes)

-- these are the names in the list on standard input, where that is known
abbrev pub AreListedInput : Holding → ℕ → List (List ℕ) → Type 0
AreListedInput None end names = ⊤
AreListedInput (Some files) end names = names ≡ listed end files.input

-- these are the names of the files
abbrev pub AreNamed : Holding → FileNames → List (List ℕ) → Type 0
AreNamed held (Words words) names = names ≡ map (λ w. w.now) words.now
AreNamed held (source.List list end) names = AreListedIn held list.now end names
AreNamed held (Input end) names = AreListedInput held end names

-- the names stand in a list, which may end before it is read whole
abbrev pub IsList : FileNames → Type 0
IsList (Words words) = ⊥
IsList (source.List list end) = ⊤
IsList (Input end) = ⊤

-- these names have their turn
abbrev pub AreVisitsOf : MatchAsk → Holding → FileNames → List Visit → Type 0
AreVisitsOf ask held named visits = (names : List (List ℕ)) × AreNamed held named names × AreVisits ask.recursive held names visits

-- some of these has a fault, and what is written grows by the lines of all files that have none, behind the head
pub record AddsLinesOfSome (head : List ℕ) (IsOf : Visit → Printed → Type 0) (Are : List Visit → Type 0) (before after : Option (List ℕ)) : Type 0 where
  pub files : List PrintedFile
  pub are : Are (visits_of files)
  pub each : All (λ f. IsOf f.visit f.printed) files
  pub is : is_whole files ≡ false
  pub adds : Adds before (head ++ out_texts files) after

-- what is written grows by the lines of those of the first files that have no fault, behind the head
pub record AddsLinesOfFirst (head : List ℕ) (IsOf : Visit → Printed → Type 0) (Are : List Visit → Type 0) (before after : Option (List ℕ)) : Type 0 where
  pub files : List PrintedFile
  pub others : List Visit
  pub are_first : Are (visits_of files ++ others)
  pub each : All (λ f. IsOf f.visit f.printed) files
  pub adds : Adds before (head ++ out_texts files) after

-- what is written grows by what is told of the first of these: how many are done and their faults, and perhaps the last line
pub record AddsTold (ask : MatchAsk) (IsOf : Visit → Printed → Type 0) (Are : List Visit → Type 0) (before after : Option (List ℕ)) : Type 0 where
  pub files : List PrintedFile
  pub others : List Visit
  pub are_first : Are (visits_of files ++ others)
  pub each : All (λ f. IsOf f.visit f.printed) files
  pub last : Bool
  pub adds : Adds before (run_text ask.progress files ++ summary_text last (tally_of none_yet files)) after

-- some file has a fault, and what is written grows by what is told of the files, and by the last line where it is asked for
pub record ReportsFiles (before after : Option (List ℕ)) : Type 0 where
  pub files : List PrintedFile
  pub is : is_whole files ≡ false
  pub progress : Bool
  pub summary : Bool
  pub adds : Adds before (run_text progress files ++ summary_text summary (tally_of none_yet files)) after
