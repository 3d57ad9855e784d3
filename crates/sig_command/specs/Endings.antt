-- What the status of a run says: of the output, of the error output and of the words.
use Rattle.std.specs.Prelude.{◌≡◌, ◌≢◌, ℕ, ◌<◌, ◌≤◌, ◌⊎◌, Bool, true, false, List, [], length, Option}
use Rattle.clap.specs.Words.{IsAmong, Text}
use Rattle.clap.specs.declared.error.kind.ErrorKind.{ErrorKind}
use Rattle.clap.specs.declared.error.kind.ErrorKind.TheVariants as kinds
use Rattle.clap.specs.declared.error.kind.ErrorKind.TheVariants.{DisplayHelp, DisplayVersion}
use Rattle.sig_bits.specs.Device.{Adds}
use Rattle.sig_command.specs.CommandLine.{AreTaken, IsHelpAsked, fault_of_words}
use Rattle.sig_command.specs.Faults.{Reports, ReportsLine}
use Rattle.sig_command.specs.Requests.{AnswersWords, Behind, MakesWords, ReportsFaultOfWords, ShowsAskedWords}
use Rattle.sig_command.specs.Several.{ReportsFiles}
use Rattle.sig_command.specs.Statuses.{kind_status}
use Rattle.sig_command.specs.declared.args.Request.{Request}
use Rattle.sig_engines.specs.Stores.{Holding}
use Rattle.sig_engines.specs.declared.error.RunError.TheVariants.{OutOfMemory}
use Rattle.sig_command.specs.declared.fault.Fault.TheVariants.{Run}

-- with 0 and 1 no write to the output failed; with 2 it is as it was, or has the faults of a table; and with 3 it is as it was, unless a write failed, or an answer was cut short
pub record KeepsOutput {W : Type 0} (Cut Lists : Type 0) (status : ℕ) (is_failed : Bool) (before after : W) : Type 0 where
  pub shown : status < 2 → is_failed ≡ false
  pub refused : status ≡ 2 → (after ≡ before) ⊎ ((is_failed ≡ false) × Lists)
  pub whole : status ≡ 3 → is_failed ≡ false → (after ≡ before) ⊎ Cut

-- what is written grows by some bytes
abbrev pub AddsSome : Option (List ℕ) → Option (List ℕ) → Type 0
AddsSome before after = (text : List ℕ) × (0 < length text) × Adds before text after

-- with 0 and 1 the error output is as it was, or has what an answer shows; unless a write failed, with 2 it has grown by some bytes, behind what is shown, or the output has the faults of a table; and with 3 by the line of a fault, or by those of several files
pub record KeepsErrors {E : Type 0} (Shown : Bool → Bool → Option (List ℕ) → Option (List ℕ) → Type 0) (Lists : Type 0) (status : ℕ) (is_failed : Bool) (before after : E) (written written_after : Option (List ℕ)) : Type 0 where
  pub quiet : status < 2 → (after ≡ before) ⊎ Shown true is_failed written written_after
  pub refused : status ≡ 2 → is_failed ≡ false → Behind (Shown false false) AddsSome written written_after ⊎ Lists
  pub reported : status ≡ 3 → is_failed ≡ false → Behind (Shown false false) (ReportsLine 3) written written_after ⊎ ReportsFiles written written_after

-- with 0 the words ask for help, or are answered with a yes; with 1 they are answered with a no; and words that ask for something are not answered with help
pub record AnswersBy (held : Holding) (words : List Text) (status : ℕ) (before after : Option (List ℕ)) : Type 0 where
  pub answered : status ≡ 0 → IsHelpAsked words ⊎ AnswersWords held words true before after
  pub denied : status ≡ 1 → AnswersWords held words false before after
  pub taken : AreTaken words → status ≡ 0 → AnswersWords held words true before after

-- with 2 and 3 words that ask for something get the status and the line of a fault of just that; `written` and `err_written` tell what an output has written, and `err_failed` whether it has failed
abbrev pub ReportsBy : {R W E : Type 0} → (R → Bool) → (Request → Type 0) → Holding → List Text → ℕ → (W → Option (List ℕ)) → (before after : W) → (E → Bool) → (E → Option (List ℕ)) → (err_before err_after : E) → Type 0
ReportsBy failed WriteFailed held words status written before after err_failed err_written err_before err_after =
    AreTaken words → 2 ≤ status → ReportsFaultOfWords failed WriteFailed held words status (written before) (written after) (err_failed err_after) (err_written err_before) (err_written err_after)

-- with 0 and 1 words that ask for something have progress shown just where they ask for it, and with 1 a search over products says why it gave up
pub record TellsBy {E : Type 0} (held : Holding) (words : List Text) (status : ℕ) (out_before out_after : Option (List ℕ)) (is_failed : Bool) (before after : E) (written written_after : Option (List ℕ)) : Type 0 where
  pub yes : AreTaken words → status ≡ 0 → ShowsAskedWords held words true out_before out_after is_failed before after written written_after
  pub no : AreTaken words → status ≡ 1 → ShowsAskedWords held words false out_before out_after is_failed before after written written_after

-- with 0 and 1 the files that words ask for are made
pub record MakesBy {F : Type 0} (name_of made : F → Option (List ℕ)) (failed : F → Bool) (held : Holding) (words : List Text) (status : ℕ) (before after : Option (List ℕ)) : Type 0 where
  pub yes : AreTaken words → status ≡ 0 → MakesWords name_of made failed held words true before after
  pub no : AreTaken words → status ≡ 1 → MakesWords name_of made failed held words false before after

-- with 0 and 1 the words are answered, and the files that they ask for are made
pub record AnswersAndMakes {F : Type 0} (name_of made : F → Option (List ℕ)) (failed : F → Bool) (held : Holding) (words : List Text) (status : ℕ) (before after : Option (List ℕ)) : Type 0 where
  pub answers : AnswersBy held words status before after
  pub makes : MakesBy name_of made failed held words status before after

-- what clap says ends by its kind, unless memory ran out or a write failed
pub record EndsByKind (kind : ErrorKind) (status : ℕ) : Type 0 where
  pub known : (status ≡ 0) ⊎ ((status ≡ 2) ⊎ (status ≡ 3))
  pub memory : kind ≡ kinds.OutOfMemory → status ≡ 3
  pub help : status ≡ 0 → (kind ≡ DisplayHelp) ⊎ (kind ≡ DisplayVersion)
  pub usage : status ≡ 2 → (kind ≢ DisplayHelp) × (kind ≢ DisplayVersion)

-- words in which clap finds a fault end as it says of their kind, unless memory ran out or a write failed
abbrev pub EndsByFault : List Text → ℕ → Type 0
EndsByFault words status =
    fault_of_words words ≢ [] → (status ≡ 3) ⊎ ((kind : ErrorKind) × IsAmong kind (fault_of_words words) × (status ≡ kind_status kind))

-- the line of want of memory is reported
abbrev pub ReportsMemory : Option (List ℕ) → Option (List ℕ) → Type 0
ReportsMemory before after = Reports (Run OutOfMemory) 3 before after
