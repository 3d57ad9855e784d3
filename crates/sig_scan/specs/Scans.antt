-- A scan: what it knows of a file of which the last bytes are at hand.
use Rattle.std.specs.Prelude.{◌≡◌, ◌↔◌, Bool, false, true, IsTrue, slice_index_or, ℕ, ◌+◌, ◌-◌, ◌<◌, ◌≤◌, ◌^◌, ◌⊎◌, ⊤, All, Some, drop, min, List, [], ◌∷◌, ◌++◌, length, Option, IfSome, MatchOption}
use Rattle.std.specs.Prelude.{IfOk, IsErrOf, OnOk, Result, is_err}
use Rattle.std.specs.List.{slice_get}
use Rattle.sig_bits.specs.Bytes.{IsBytes}
use Rattle.sig_bits.specs.Device.{Gives, IsAtEnd}
use Rattle.sig_core.specs.declared.error.CoreError.{CoreError}
use Rattle.sig_core.specs.declared.error.CoreError.TheVariants as core_error
use Rattle.sig_expr.specs.declared.item.Item.{Item}
use Rattle.sig_scan.specs.Frontiers.{EndsAt}
use Rattle.sig_scan.specs.Courses.{AreSequencesOf, IsProgramOf, ProgramView}
use Rattle.sig_scan.specs.Lengths.{AreBounded, span}
use Rattle.sig_scan.specs.Passes.{ArePast}
use Rattle.sig_scan.specs.Placed.{Lies}
use Rattle.sig_scan.specs.Stages.{CourseStands, CourseView, InTurn, StageView, TailView, Waits}
use Rattle.sig_scan.specs.declared.state.Site.{Site}
use Rattle.sig_scan.specs.declared.state.State.{State}
use Rattle.sig_scan.specs.declared.state.Step.{Step}
use Rattle.sig_scan.specs.declared.state.Step.TheVariants.{Ended, Past}
use Rattle.sig_table.specs.Standing.{Hits, Stands}
use Rattle.sig_table.specs.Views.{SequenceView, SignatureView, TableView}

-- the first end of all words that begin at `from` or later and before `until`; or none of them begins before `limit`
abbrev pub IsFirstOf : List Item → List ℕ → ℕ → ℕ → ℕ → Option ℕ → Type 0
IsFirstOf items bytes from until limit found =
    MatchOption found ((start end : ℕ) → from ≤ start → start < until → start < limit → ¬ Lies items bytes start end)
    (λ e. EndsAt items bytes from until e × ((end : ℕ) → EndsAt items bytes from until end → e ≤ end))

-- as far as it is counted, so many bytes stand before those at hand
abbrev pub IsBase : List ℕ → ℕ → Type 0
IsBase before base = base ≡ min (length before) (2 ^ 64 - 1)

-- the residual of a sequence, with its offset counted in the bytes at hand
abbrev pub WaitsOn : Bool → SequenceView → List ℕ → List ℕ → ℕ → List StageView → Option TailView → Type 0
WaitsOn is_last sequence before bytes from stages tail = Waits is_last sequence (before ++ bytes) (length before + from) stages tail

-- the same, whatever bytes follow
abbrev pub WaitsAt : SequenceView → List ℕ → List ℕ → ℕ → List StageView → Option TailView → Type 0
WaitsAt = WaitsOn false

-- the residual behind an attempt at the first of the stages
abbrev pub WaitsBehind : Bool → SequenceView → List ℕ → List ℕ → StageView → List StageView → Option TailView → Step → Type 0
WaitsBehind is_last sequence before bytes stage later tail (Past from) = WaitsOn is_last sequence before bytes from (stage ∷ later) tail
WaitsBehind is_last sequence before bytes stage later tail (Ended from) = WaitsOn is_last sequence before bytes from later tail

-- words of so many bytes that begin before the limit end in these bytes, or no bytes follow them
abbrev pub HasSight : Bool → ℕ → ℕ → ℕ → Type 0
HasSight false limit reach len = limit + reach ≤ len
HasSight true limit reach len = ⊤

-- words can be looked for in the bytes at hand: there is room for all of them, and words that begin before the limit end in them
pub record CanAttempt (site : Site) (frontier : ℕ) : Type 0 where
  pub room : length site.bytes.now ≤ frontier
  pub sight : HasSight site.is_last site.limit site.reach (length site.bytes.now)

-- a failed attempt takes off offsets, of those before the limit
abbrev pub StepsOn : ℕ → ℕ → Step → Type 0
StepsOn from limit (Past later) = (from < later) × (later ≤ limit)
StepsOn from limit (Ended later) = ⊤

-- no word of the stage has more bytes
pub record IsShort (reach : ℕ) (stage : StageView) : Type 0 where
  pub bounded : AreBounded stage.items
  pub few : span stage.items ≤ reach

-- nor has the tail, with what may stand behind it
abbrev pub TailIsShort : ℕ → Option TailView → Type 0
TailIsShort reach tail = IfSome tail (λ t. AreBounded t.items × (span t.items + t.max ≤ reach))

-- the stages and the tail stand in turn, from an offset of the bytes at hand on
abbrev pub InTurnAt : List ℕ → List ℕ → ℕ → List StageView → Option TailView → Type 0
InTurnAt before bytes from stages tail = InTurn (before ++ bytes) (length before + from) stages tail

-- the bytes at hand are all of the file, or at least so many
abbrev pub HasLastBytes : ℕ → List ℕ → List ℕ → Type 0
HasLastBytes reach before bytes = (before ≡ []) ⊎ (reach ≤ length bytes)

-- whatever bytes follow, the sequence does not stand
abbrev pub NeverStands : SequenceView → List ℕ → Type 0
NeverStands sequence file = (more : List ℕ) → IsBytes more → ¬ Stands sequence (file ++ more)

-- the sequences of the signatures that the file may hit wait for what their states say of their courses
abbrev pub AllWait : List SequenceView → ProgramView → List Bool → List ℕ → List ℕ → List State → Type 0
AllWait sequences program may_hit before bytes states = (i g : ℕ) (s : SequenceView) (c : CourseView) (t : State) → slice_get program.owners i ≡ Some g
    → slice_get may_hit g ≡ Some true → slice_get sequences i ≡ Some s → slice_get program.courses i ≡ Some c → slice_get states i ≡ Some t
    → WaitsAt s before bytes t.from (drop t.done c.stages) c.tail

-- an excluded signature hits no file that begins with these bytes
abbrev pub AreExcluded : TableView → List Bool → List ℕ → Type 0
AreExcluded table may_hit file = (g : ℕ) (h : SignatureView) → slice_get may_hit g ≡ Some false → slice_get table.signatures g ≡ Some h
    → (more : List ℕ) → IsBytes more → ¬ Hits h (file ++ more)

-- no state has more stages behind it than its course has
abbrev pub AreDone : List CourseView → List State → Type 0
AreDone courses states = (i : ℕ) (c : CourseView) (t : State) → slice_get courses i ≡ Some c → slice_get states i ≡ Some t → t.done ≤ length c.stages

-- no word of the course is without bound or has more bytes
pub record IsShortCourse (reach : ℕ) (course : CourseView) : Type 0 where
  pub stages : All (IsShort reach) course.stages
  pub tail : TailIsShort reach course.tail

-- the bytes at hand, and how many there can be
pub record BufferView : Type 0 where
  pub room : ℕ
  pub bytes : List ℕ

-- the buffer has what the input gave behind its bytes
pub record IsFilled (old new : BufferView) (before after : Option (List ℕ)) : Type 0 where
  pub piece : List ℕ
  pub bytes : IsBytes piece
  pub given : Gives before piece after
  pub added : new ≡ record { room = old.room; bytes = old.bytes ++ piece }

-- a call that reads on fails exactly where a read has failed; where it leaves room, nothing is to come
pub record ReadsOn {A E : Type 0} (LeavesRoom : A → Type 0) (result : Result A E) (was_failed is_failed : Bool) (to_come : Option (List ℕ)) : Type 0 where
  pub fails : is_failed ≡ is_err result
  pub sound : OnOk result (was_failed ≡ false)
  pub at_end : IfOk result (λ answer. LeavesRoom answer → IsAtEnd to_come)

-- a call that reads to the end tells of a failed read, and of nothing else that it is one
pub record ReadsToEnd {A : Type 0} (result : Result A CoreError) (was_failed is_failed : Bool) (to_come : Option (List ℕ)) : Type 0 where
  pub at_end : OnOk result (IsAtEnd to_come)
  pub sound : OnOk result (is_failed ≡ false)
  pub read : IsErrOf result core_error.Read → is_failed ≡ true
  pub memory : IsErrOf result core_error.OutOfMemory → is_failed ≡ was_failed

-- what a scan has: the program, how many bytes hold any word, how many bytes stand before those at hand, as far as they are counted, these
-- bytes, the state of each sequence, whether each signature may still hit the file, and the offset that was found for each sequence
pub record ScanView : Type 0 where
  pub program : ProgramView
  pub keep : ℕ
  pub base : ℕ
  pub buffer : BufferView
  pub states : List State
  pub may_hit : List Bool
  pub found : List ℕ

-- the scan keeps so many bytes, has room for so many, and a flag for each of so many signatures
pub record HasSizes (kept most count : ℕ) (scan : ScanView) : Type 0 where
  pub keep : scan.keep ≡ kept
  pub room : scan.buffer.room ≡ most
  pub len : length scan.may_hit ≡ count

-- what is true of every scan, with room in its frontier for so many bytes
pub record IsScan (room : ℕ) (scan : ScanView) : Type 0 where
  pub owned : All (λ g. g < length scan.may_hit) scan.program.owners
  pub held : All (IsShortCourse scan.keep) scan.program.courses
  pub found_len : length scan.found ≡ length scan.program.courses
  pub sets : room ≡ scan.buffer.room
  pub count : length scan.states ≡ length scan.program.courses
  pub done : AreDone scan.program.courses scan.states

-- a pass over bytes with more behind them: each sequence has a signature, a course, a state and an offset that was found, and words that begin before the limit end in sight
pub record CanSettle (program : ProgramView) (states : List State) (may_hit : List Bool) (found_len : ℕ) (site : Site) (frontier : ℕ) : Type 0 where
  pub owners : All (λ g. g < length may_hit) program.owners
  pub count : length states ≡ length program.courses
  pub found : found_len ≡ length program.courses
  pub held : All (IsShortCourse site.reach) program.courses
  pub done : AreDone program.courses states
  pub more : site.is_last ≡ false
  pub sight : site.limit + site.reach ≡ length site.bytes.now
  pub room : length site.bytes.now ≤ frontier

-- a file is begun: its first bytes are in the buffer, in a part of a block, and there are more of them only if this part is full; the program is of the signatures that it may hit
pub record IsBegun (table : TableView) (may_hit : List Bool) (program : ProgramView) (block : ℕ) (buffer : BufferView) (to_come : Option (List ℕ)) (failed : Bool) : Type 0 where
  pub is_program : IsProgramOf table may_hit program
  pub size : length may_hit ≡ length table.signatures
  pub some : 0 < block
  pub room : buffer.room ≤ block
  pub bytes : IsBytes buffer.bytes
  pub at_end : length buffer.bytes < buffer.room → IsAtEnd to_come
  pub sound : failed ≡ false

-- what is known behind this file: its last bytes are at hand, each sequence of a signature that may hit the file waits for what its state
-- says, and an excluded signature hits no file that so begins
pub record Knows (table : TableView) (file : List ℕ) (program : ProgramView) (keep base : ℕ) (bytes : List ℕ) (states : List State)
    (may_hit : List Bool) : Type 0 where
  pub sequences : List SequenceView
  pub are : AreSequencesOf table program.owners sequences
  pub size : length may_hit ≡ length table.signatures
  pub before : List ℕ
  pub cut : file ≡ before ++ bytes
  pub counted : IsBase before base
  pub last : HasLastBytes keep before bytes
  pub wait : AllWait sequences program may_hit before bytes states
  pub excluded : AreExcluded table may_hit file

abbrev pub IsScanOf : TableView → List ℕ → ScanView → Type 0
IsScanOf table file scan = Knows table file scan.program scan.keep scan.base scan.buffer.bytes scan.states scan.may_hit

-- behind this file and what the input gave
pub record HasRead (table : TableView) (file : List ℕ) (before after : Option (List ℕ)) (scan : ScanView) : Type 0 where
  pub piece : List ℕ
  pub bytes : IsBytes piece
  pub given : Gives before piece after
  pub is_of : IsScanOf table (file ++ piece) scan

-- the offsets that were found are those of the bytes at hand, and one byte more
abbrev pub EndsPast : ScanView → Type 0
EndsPast scan = (byte : ℕ) × ArePast scan.program.courses scan.states (scan.buffer.bytes ++ byte ∷ []) scan.found

-- in any file all of the course stands where what this state leaves of it does
pub record IsFirst (course : CourseView) (t : State) : Type 0 where
  pub done : t.done ≤ length course.stages
  pub left : (file : List ℕ) → CourseStands course file ↔ InTurn file t.from (drop t.done course.stages) course.tail

-- each sequence waits for all of its course
abbrev pub AreFirst : List CourseView → List State → Type 0
AreFirst courses states = (i : ℕ) (c : CourseView) (t : State) → slice_get courses i ≡ Some c → slice_get states i ≡ Some t → IsFirst c t

-- each mark says whether its signature hits the file
abbrev pub AreMarked : TableView → List ℕ → List Bool → Type 0
AreMarked table file marks = (g : ℕ) (h : SignatureView) → slice_get table.signatures g ≡ Some h → IsTrue (slice_index_or marks g false) ↔ Hits h file
