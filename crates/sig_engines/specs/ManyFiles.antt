-- What is printed of many files, each by its name.
use Rattle.std.specs.Prelude.{◌≡◌, ◌≢◌, ℕ, Bool, true, false, List, [], ◌∷◌, ◌++◌, All, codes, flat_map, is_ok, length, map, None, Option, Result, Ok, Err, Some}
use Rattle.std.specs.Str.{IsUtf8}
use Rattle.std.specs.List.{list_all}
use Rattle.sig_bits.specs.Bytes.{IsBytes}
use Rattle.sig_bits.specs.Device.{Adds, AddsFront}
use Rattle.sig_core.specs.declared.results.Hit.{Hit}
use Rattle.sig_table.specs.Views.{TableView}
use Rattle.sig_engines.specs.Writing.{run_text as error_text}
use Rattle.sig_engines.specs.FileProgress.{done_text, end_text, told_text}
use Rattle.sig_engines.specs.FileTexts.{file_text, head_text}
use Rattle.sig_engines.specs.Lines.{AreAsked}
use Rattle.sig_engines.specs.Listed.{AreListed}
use Rattle.sig_engines.specs.Stores.{Has, Holding, Holds, Lacks, SomeFailed}
use Rattle.sig_engines.specs.Tallies.{done_of, none_yet, summary_line, with_fault, with_file}
use Rattle.sig_engines.specs.Visits.{AreVisits, Visit}
use Rattle.sig_engines.specs.declared.error.RunError.{RunError}
use Rattle.sig_engines.specs.declared.error.RunError.TheVariants.{OutOfMemory, Read, Write}
use Rattle.sig_engines.specs.declared.ask.MatchAsk.{MatchAsk}
use Rattle.sig_engines.specs.declared.error.FileFault.{FileFault}
use Rattle.sig_engines.specs.declared.error.FileFault.TheVariants.{CannotOpen, Run}
use Rattle.sig_engines.specs.declared.error.NameFault.{NameFault}
use Rattle.sig_engines.specs.declared.error.NameFault.TheVariants.{File, IsFolder, NotRegular, NotText, TooDeep}
use Rattle.sig_engines.specs.declared.tally.Tally.{Tally}

-- ---- one file

-- the answer to a file: what is written of it, of how many hits, and how many bytes were read
pub record Answer : Type 0 where
  pub text : List ℕ
  pub hits : ℕ
  pub bytes : ℕ

-- what is printed of a file: its answer, or its fault
abbrev pub Printed : Type 0
Printed = Result Answer NameFault

-- this is written of the hits that are asked for, of which there are so many, of the file of this name
pub record AreLinesOf (ask : MatchAsk) (table : TableView) (held : Holding) (name : List ℕ) (count : ℕ) (lines : List ℕ) : Type 0 where
  pub file : List ℕ
  pub bytes : IsBytes file
  pub holds : Holds held name file
  pub hits : List Hit
  pub are_asked : AreAsked ask.all table file hits
  pub counts : count ≡ length hits
  pub are_lines : lines ≡ file_text ask.csv ask.names name table hits

-- why nothing is printed of the file of this name: there is no such file or the name is no text, some reader of the store failed, or memory ran out
abbrev pub IsUnmatched : {R : Type 0} → (R → Bool) → Holding → List ℕ → FileFault → Type 0
IsUnmatched failed held name CannotOpen = IsUtf8 name → Lacks held name
IsUnmatched failed held name (Run Read) = Has held name × SomeFailed failed
IsUnmatched failed held name (Run Write) = ⊥
IsUnmatched failed held name (Run OutOfMemory) = Has held name

-- this is printed of the file of this name
abbrev pub IsMatched : {R : Type 0} → (R → Bool) → MatchAsk → TableView → Holding → List ℕ → Printed → Type 0
IsMatched failed ask table held name (Ok answer) = AreLinesOf ask table held name answer.hits answer.text
IsMatched failed ask table held name (Err (File fault)) = IsUnmatched failed held name fault
IsMatched failed ask table held name (Err IsFolder) = ⊥
IsMatched failed ask table held name (Err NotRegular) = ⊥
IsMatched failed ask table held name (Err NotText) = ⊥
IsMatched failed ask table held name (Err TooDeep) = ⊥

-- this is printed where a name has its turn, of the file that is matched or of what is told
abbrev pub IsPrintedBy : {R : Type 0} → (R → Bool) → MatchAsk → TableView → Holding → List ℕ → Option NameFault → Printed → Type 0
IsPrintedBy failed ask table held name None printed = IsMatched failed ask table held name printed
IsPrintedBy failed ask table held name (Some fault) printed = printed ≡ Err fault

abbrev pub IsPrinted : {R : Type 0} → (R → Bool) → MatchAsk → TableView → Holding → Visit → Printed → Type 0
IsPrinted failed ask table held visit printed = IsPrintedBy failed ask table held visit.name visit.told printed

-- what is written to the output
abbrev pub out_text : Printed → List ℕ
out_text (Ok answer) = answer.text
out_text (Err fault) = []

-- what stands behind the name in the line of a fault: nothing, where it can't be opened
abbrev pub fault_words : NameFault → Option (List ℕ)
fault_words (File CannotOpen) = None
fault_words (File (Run error)) = Some (error_text error)
fault_words IsFolder = Some (codes "is a folder")
fault_words NotRegular = Some (codes "is not a regular file")
fault_words NotText = Some (codes "a name that is no UTF-8")
fault_words TooDeep = Some (codes "below too many folders")

-- the line of a fault of the file or folder of this name: `cannot open NAME`, or the name and what is wrong
abbrev pub line_by : List ℕ → Option (List ℕ) → List ℕ
line_by name None = codes "cannot open " ++ name ++ 10 ∷ []
line_by name (Some words) = name ++ codes ": " ++ words ++ 10 ∷ []

abbrev pub file_fault_line : List ℕ → NameFault → List ℕ
file_fault_line name fault = line_by name (fault_words fault)

-- ---- many files

-- a name that has its turn, and what is printed then
pub record PrintedFile : Type 0 where
  pub visit : Visit
  pub printed : Printed

abbrev pub visits_of : List PrintedFile → List Visit
visits_of files = map (λ f. f.visit) files

-- the tally with one more file
abbrev pub counted : Tally → Printed → Tally
counted tally (Ok answer) = with_file tally answer.hits answer.bytes
counted tally (Err fault) = with_fault tally

-- the tally with more files
abbrev pub tally_of : Tally → List PrintedFile → Tally
tally_of tally [] = tally
tally_of tally (f ∷ files) = tally_of (counted tally f.printed) files

-- what is written of files to the output, in their order
abbrev pub out_texts : List PrintedFile → List ℕ
out_texts files = flat_map (λ f. out_text f.printed) files

-- what is written of a file to the error output, where so many are done with it
abbrev pub err_text : Bool → ℕ → List ℕ → Printed → List ℕ
err_text progress done name (Ok answer) = done_text progress done
err_text progress done name (Err fault) = told_text progress done (file_fault_line name fault)

-- what is written of files to the error output, in their order, behind those of the tally
abbrev pub err_texts : Bool → Tally → List PrintedFile → List ℕ
err_texts progress tally [] = []
err_texts progress tally (f ∷ files) = err_text progress (done_of (counted tally f.printed)) f.visit.name f.printed ++ err_texts progress (counted tally f.printed) files

-- whether no file has a fault
abbrev pub is_whole : List PrintedFile → Bool
is_whole files = list_all (λ f. is_ok f.printed) files

-- of files this is printed, in their order, on both outputs, as far as the error output did not fail, and on the output behind the head; `Are` says which names have their turn, and a tally of files becomes one with these
pub record AddsFiles (head : List ℕ) (IsOf : Visit → Printed → Type 0) (Are : List Visit → Type 0) (progress : Bool) (tally : Tally) (before after : Option (List ℕ)) (err_failed : Bool) (err_before err_after : Option (List ℕ)) (becomes : Tally) : Type 0 where
  pub files : List PrintedFile
  pub are : Are (visits_of files)
  pub each : All (λ f. IsOf f.visit f.printed) files
  pub is : becomes ≡ tally_of tally files
  pub adds : Adds before (head ++ out_texts files) after
  pub reports : err_failed ≡ false → Adds err_before (err_texts progress tally files) err_after

-- of the first ones this is printed, but of what is written to the output only a front
pub record CutsFiles (head : List ℕ) (IsOf : Visit → Printed → Type 0) (Are : List Visit → Type 0) (progress : Bool) (tally : Tally) (before after : Option (List ℕ)) (err_failed : Bool) (err_before err_after : Option (List ℕ)) : Type 0 where
  pub files : List PrintedFile
  pub others : List Visit
  pub are_first : Are (visits_of files ++ others)
  pub each : All (λ f. IsOf f.visit f.printed) files
  pub adds : AddsFront before (head ++ out_texts files) after
  pub reports : err_failed ≡ false → Adds err_before (err_texts progress tally files) err_after

-- of the first ones this is printed, whole
pub record StopsFiles (head : List ℕ) (IsOf : Visit → Printed → Type 0) (Are : List Visit → Type 0) (progress : Bool) (tally : Tally) (before after : Option (List ℕ)) (err_failed : Bool) (err_before err_after : Option (List ℕ)) : Type 0 where
  pub files : List PrintedFile
  pub others : List Visit
  pub are_first : Are (visits_of files ++ others)
  pub each : All (λ f. IsOf f.visit f.printed) files
  pub adds : Adds before (head ++ out_texts files) after
  pub reports : err_failed ≡ false → Adds err_before (err_texts progress tally files) err_after

-- a write to the output failed, which is the one refusal, and of the first ones this is printed
pub record EndsByWrite (head : List ℕ) (IsOf : Visit → Printed → Type 0) (Are : List Visit → Type 0) (progress : Bool) (tally : Tally) (out_failed : Bool) (before after : Option (List ℕ)) (err_failed : Bool) (err_before err_after : Option (List ℕ)) (error : RunError) : Type 0 where
  pub is : error ≡ Write
  pub failed : out_failed ≡ true
  pub cut : CutsFiles head IsOf Are progress tally before after err_failed err_before err_after

-- of the first ones this is printed, and whole unless a write failed
pub record EndsEarly (head : List ℕ) (IsOf : Visit → Printed → Type 0) (Are : List Visit → Type 0) (progress : Bool) (tally : Tally) (before after : Option (List ℕ)) (err_failed : Bool) (err_before err_after : Option (List ℕ)) (error : RunError) : Type 0 where
  pub cut : CutsFiles head IsOf Are progress tally before after err_failed err_before err_after
  pub whole : error ≢ Write → StopsFiles head IsOf Are progress tally before after err_failed err_before err_after

-- ---- a whole run

-- what is written to the error output until the run ends: where it is asked for how many files are done, and the faults
abbrev pub run_text : Bool → List PrintedFile → List ℕ
run_text progress files = done_text progress 0 ++ err_texts progress none_yet files ++ end_text progress

-- the last line, where it is asked for
abbrev pub summary_text : Bool → Tally → List ℕ
summary_text false tally = []
summary_text true tally = summary_line tally

-- of all files this is printed, in their order, on both outputs, and it is known whether none has a fault
pub record AddsAll (ask : MatchAsk) (IsOf : Visit → Printed → Type 0) (Are : List Visit → Type 0) (before after : Option (List ℕ)) (err_failed : Bool) (err_before err_after : Option (List ℕ)) (whole : Bool) : Type 0 where
  pub files : List PrintedFile
  pub are : Are (visits_of files)
  pub each : All (λ f. IsOf f.visit f.printed) files
  pub is : whole ≡ is_whole files
  pub adds : Adds before (head_text ask.csv ++ out_texts files) after
  pub reports : err_failed ≡ false → Adds err_before (run_text ask.progress files ++ summary_text ask.summary (tally_of none_yet files)) err_after

-- of the first ones this is printed, but of what is written to the output only a front
pub record CutsAll (ask : MatchAsk) (IsOf : Visit → Printed → Type 0) (Are : List Visit → Type 0) (before after : Option (List ℕ)) (err_failed : Bool) (err_before err_after : Option (List ℕ)) : Type 0 where
  pub files : List PrintedFile
  pub others : List Visit
  pub are_first : Are (visits_of files ++ others)
  pub each : All (λ f. IsOf f.visit f.printed) files
  pub adds : AddsFront before (head_text ask.csv ++ out_texts files) after
  pub reports : err_failed ≡ false → Adds err_before (run_text ask.progress files) err_after

-- of the first ones this is printed, whole
pub record StopsAll (ask : MatchAsk) (IsOf : Visit → Printed → Type 0) (Are : List Visit → Type 0) (before after : Option (List ℕ)) (err_failed : Bool) (err_before err_after : Option (List ℕ)) : Type 0 where
  pub files : List PrintedFile
  pub others : List Visit
  pub are_first : Are (visits_of files ++ others)
  pub each : All (λ f. IsOf f.visit f.printed) files
  pub adds : Adds before (head_text ask.csv ++ out_texts files) after
  pub reports : err_failed ≡ false → Adds err_before (run_text ask.progress files) err_after

-- these are the visits of the names in a list; `end` is what ends a name, and `list` the bytes of the list where they are known
abbrev pub AreListedVisits : Bool → Holding → ℕ → Option (List ℕ) → List Visit → Type 0
AreListedVisits recursive held end list visits = (names : List (List ℕ)) × AreListed end list names × AreVisits recursive held names visits
