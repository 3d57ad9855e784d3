-- What a store that tells what it holds says of what is read from it.
use Rattle.std.proofs.Common.{◌≡◌, ◌||◌, not, ℕ, Bool, true, false, List, None, Option, Some, Result, Ok, Err, IfSome, ap, inl, inr, refl, subst, sym, ◌∙◌}
use Rattle.std.specs.Bool.{OnFalse}
use Rattle.std.specs.Prelude.{option_map}
use Rattle.std.specs.Borrow.{Bor}
use Rattle.std.proofs.lemmas.Option.{same_Some}
use Rattle.sig_table.specs.Judging.{is_memory, is_read}
use Rattle.sig_table.specs.Loading.{records_of, table_of}
use Rattle.sig_table.specs.Tables.{IsTable}
use Rattle.sig_table.specs.Views.{TableView}
use Rattle.sig_table.specs.declared.error.TableError.{TableError}
use Rattle.sig_table.specs.declared.error.TableError.TheVariants as table
use Rattle.sig_table.specs.declared.error.TableFile.TheVariants.{Priorities, Signatures}
use Rattle.sig_engines.specs.Judged.{AddsVerdictOfSome}
use Rattle.sig_engines.specs.Lines.{AddsLinesOfSome}
use Rattle.sig_command.specs.Faults.{TellsWrite}
use Rattle.sig_command.specs.Requests.{Answers, IsFaultOf, IsFileFault}
use Rattle.sig_command.specs.Requests.{file_fault as fault_of_file}
use Rattle.sig_engines.specs.Stores.{Files, Has, HasPriorities, Holding, Holds, HoldsPriorities, IsTableFault, IsTableOf, Lacks, Opens, OpensPriorities}
use Rattle.sig_engines.specs.Stores.{ReadsAs, SomeFailed, no_priorities}
use Rattle.sig_engines.specs.PriorityInputs.{has_failed}
use Rattle.sig_engines.specs.declared.priority_input.PriorityInput.{PriorityInput}
use Rattle.sig_engines.specs.declared.priority_input.PriorityInput.TheVariants.{File, Header}
use Rattle.sig_engines.specs.Witnessed.{AddsWitnessOfSome}
use Rattle.sig_command.specs.declared.args.Request.{Request}
use Rattle.sig_command.specs.declared.args.Request.TheVariants.{Check, Match, Witness}
use Rattle.sig_engines.specs.declared.store.TablePaths.{TablePaths}
use Rattle.sig_engines.specs.declared.error.CutShort.TheVariants as cut
use Rattle.sig_engines.specs.declared.error.FileFault.{FileFault}
use Rattle.sig_engines.specs.declared.error.FileFault.TheVariants as file
use Rattle.sig_engines.specs.declared.error.RunError.{RunError}
use Rattle.sig_engines.specs.declared.error.RunError.TheVariants.{OutOfMemory, Read, Write}
use Rattle.sig_command.specs.declared.fault.Fault.{Fault}
use Rattle.sig_command.specs.declared.fault.Fault.TheVariants.{CannotOpen, CutShort, Run}

-- ---- one file

-- a file that is opened has bytes, and they are to come
pub record Opened (files : Files) (name : List ℕ) (to_come : Option (List ℕ)) : Type 0 where
  pub bytes : List ℕ
  pub has : files.bytes name ≡ Some bytes
  pub comes : to_come ≡ Some bytes

pub opened : (files : Files) (name : List ℕ) (to_come : Option (List ℕ)) → Opens (Some files) name (Some to_come) → Opened files name to_come
opened files name to_come opens = go (files.bytes name) refl opens
  where
    go : (file : Option (List ℕ)) → files.bytes name ≡ file → Some to_come ≡ option_map Some file → Opened files name to_come
    go None is same = cc
    go (Some bytes) is same = record { bytes = bytes; has = is; comes = same_Some to_come (Some bytes) same }

pub has_opened : (held : Holding) (name : List ℕ) (to_come : Option (List ℕ)) → Opens held name (Some to_come) → Has held name
has_opened None name to_come opens = tt
has_opened (Some files) name to_come opens = let o = opened files name to_come opens in rw o.has refl

pub lacks_unopened : (held : Holding) (name : List ℕ) → Opens held name None → Lacks held name
lacks_unopened None name opens = tt
lacks_unopened (Some files) name opens = go (files.bytes name) refl opens
  where
    none : Option (Option (List ℕ))
    none = None

    go : (file : Option (List ℕ)) → files.bytes name ≡ file → none ≡ option_map Some file → files.bytes name ≡ None
    go None is same = is
    go (Some bytes) is same = cc

-- the bytes that were to come are those of the file
pub holds_read : (held : Holding) (name : List ℕ) (to_come : Option (List ℕ)) (file : List ℕ) → Opens held name (Some to_come)
    → IfSome to_come (λ bytes. file ≡ bytes) → Holds held name file
holds_read None name to_come file opens is = tt
holds_read (Some files) name to_come file opens is =
    let o = opened files name to_come opens in
    let same : file ≡ o.bytes = subst (λ t. IfSome t (λ bytes. file ≡ bytes)) o.comes is in
    o.has ∙ ap Some (sym same)

-- why an engine gives no answer of a file that was opened
pub file_fault : {R : Type 0} (failed : R → Bool) (held : Holding) (name : Bor (List ℕ)) (to_come : Option (List ℕ)) (error : RunError)
    → Opens held name.now (Some to_come) → (error ≡ Read → SomeFailed failed) → IsFileFault failed held name (Run error)
file_fault failed held name to_come Read opens unread = (has_opened held name.now to_come opens, unread refl)
file_fault failed held name to_come Write opens unread = has_opened held name.now to_come opens
file_fault failed held name to_come OutOfMemory opens unread = tt

-- what is told of the file that a search makes
pub file_write : (name : Bor (List ℕ)) (fault : FileFault) (reason : Fault) (P : Type 0) → reason ≡ fault_of_file name fault → (fault ≡ file.Run Write → P)
    → TellsWrite reason → P
file_write name fault reason P same write tells = go fault (subst TellsWrite same tells) write
  where
    go : (fault : FileFault) → TellsWrite (fault_of_file name fault) → (fault ≡ file.Run Write → P) → P
    go file.CannotOpen (inl is) write = let bad : CannotOpen name ≡ Run Write = is in cc
    go file.CannotOpen (inr is) write = let bad : CannotOpen name ≡ CutShort cut.Write = is in cc
    go (file.Run Read) (inl is) write = let bad : Run Read ≡ Run Write = is in cc
    go (file.Run Read) (inr is) write = let bad : Run Read ≡ CutShort cut.Write = is in cc
    go (file.Run Write) tells write = write refl
    go (file.Run OutOfMemory) (inl is) write = let bad : Run OutOfMemory ≡ Run Write = is in cc
    go (file.Run OutOfMemory) (inr is) write = let bad : Run OutOfMemory ≡ CutShort cut.Write = is in cc

-- ---- the files of a table

-- priorities that are opened have bytes, and they are to come
record OpenedPriorities (files : Files) (name : Option (Bor (List ℕ))) (to_come : Option (List ℕ)) : Type 0 where
  pub bytes : List ℕ
  pub has : HoldsPriorities (Some files) name bytes
  pub comes : to_come ≡ Some bytes

opened_priorities : (files : Files) (name : Option (Bor (List ℕ))) (to_come : Option (List ℕ)) → OpensPriorities (Some files) name to_come
    → OpenedPriorities files name to_come
opened_priorities files None to_come opens = record { bytes = no_priorities; has = refl; comes = opens }
opened_priorities files (Some name) to_come opens = let o = opened files name.now to_come opens in record { bytes = o.bytes; has = o.has; comes = o.comes }

has_priorities : (held : Holding) (name : Option (Bor (List ℕ))) (to_come : Option (List ℕ)) → OpensPriorities held name to_come → HasPriorities held name
has_priorities held None to_come opens = tt
has_priorities held (Some name) to_come opens = has_opened held name.now to_come opens

reads_as : (held : Holding) (paths : TablePaths) (first second : Option (List ℕ)) (read : Result TableView TableError)
    → Opens held paths.signatures.now (Some first) → OpensPriorities held paths.priorities second
    → ((s p : List ℕ) → first ≡ Some s → second ≡ Some p → table_of (records_of s) (records_of p) ≡ read) → ReadsAs held paths read
reads_as None paths first second read opens_first opens_second exact = tt
reads_as (Some files) paths first second read opens_first opens_second exact =
    let one = opened files paths.signatures.now first opens_first in
    let two = opened_priorities files paths.priorities second opens_second in
    (one.bytes, two.bytes, one.has, two.has, exact one.bytes two.bytes one.comes two.comes)

pub table_read : (held : Holding) (paths : TablePaths) (first second : Option (List ℕ)) (table : TableView) → Opens held paths.signatures.now (Some first)
    → OpensPriorities held paths.priorities second → IsTable table
    → ((s p : List ℕ) → first ≡ Some s → second ≡ Some p → table_of (records_of s) (records_of p) ≡ Ok table) → IsTableOf held paths table
table_read held paths first second table opens_first opens_second limits exact =
    record { limits = limits; read = reads_as held paths first second (Ok table) opens_first opens_second exact }

on_false : (b : Bool) (P : Type 0) → OnFalse b P → not b ≡ true → P
on_false true P is judged = cc
on_false false P is judged = is

-- priorities fail only by the reader of their file
priorities_failed : {R : Type 0} (failed : R → Bool) (input : PriorityInput R) → has_failed failed input ≡ true → SomeFailed failed
priorities_failed failed (File file) is = record { reader = file; has_failed = is }
priorities_failed failed (Header rest) is = let bad : false ≡ true = is in cc

-- a failed read is one of the reader of its file
reader_failed : {R : Type 0} (failed : R → Bool) (one : R) (two : PriorityInput R) (error : TableError) → (error ≡ table.Read Signatures → failed one ≡ true)
    → (error ≡ table.Read Priorities → has_failed failed two ≡ true) → is_read error ≡ true → SomeFailed failed
reader_failed failed one two (table.Read Signatures) first second is = record { reader = one; has_failed = first refl }
reader_failed failed one two (table.Read Priorities) first second is = priorities_failed failed two (second refl)
reader_failed failed one two (table.Header f) first second is = cc
reader_failed failed one two (table.Fields f n) first second is = cc
reader_failed failed one two (table.Puid f n) first second is = cc
reader_failed failed one two (table.SignatureNumber n) first second is = cc
reader_failed failed one two (table.Position n) first second is = cc
reader_failed failed one two (table.Offset n) first second is = cc
reader_failed failed one two (table.Expression n e) first second is = cc
reader_failed failed one two (table.SignatureOfTwo n) first second is = cc
reader_failed failed one two (table.TooManySequences n) first second is = cc
reader_failed failed one two (table.TooManySlots n) first second is = cc
reader_failed failed one two (table.TooManyFormats n) first second is = cc
reader_failed failed one two (table.PriorityUnknown n) first second is = cc
reader_failed failed one two (table.PrioritySelf n) first second is = cc
reader_failed failed one two (table.PriorityTwice n) first second is = cc
reader_failed failed one two (table.PriorityCycle n) first second is = cc
reader_failed failed one two table.OutOfMemory first second is = cc

pub table_fault : {R : Type 0} (failed : R → Bool) (held : Holding) (paths : TablePaths) (first second : Option (List ℕ)) (one : R) (two : PriorityInput R)
    (error : TableError) → Opens held paths.signatures.now (Some first) → OpensPriorities held paths.priorities second
    → ((s p : List ℕ) → first ≡ Some s → second ≡ Some p → OnFalse (is_read error || is_memory error) (table_of (records_of s) (records_of p) ≡ Err error))
    → (error ≡ table.Read Signatures → failed one ≡ true) → (error ≡ table.Read Priorities → has_failed failed two ≡ true)
    → IsTableFault failed held paths error
table_fault failed held paths first second one two error opens_first opens_second exact read_first read_second = record {
  has_signatures = has_opened held paths.signatures.now first opens_first;
  has_priorities = has_priorities held paths.priorities second opens_second;
  judged = λ judged. reads_as held paths first second (Err error) opens_first opens_second
      (λ s p one two. on_false (is_read error || is_memory error) (table_of (records_of s) (records_of p) ≡ Err error) (exact s p one two) judged);
  unread = reader_failed failed one two error read_first read_second;
}

-- ---- what is written of one file

pub match_is_answered : (held : Holding) (request : Request) (all : Bool) (paths : TablePaths) (name : Bor (List ℕ)) (table : TableView)
    (to_come before after : Option (List ℕ)) → request ≡ Match all paths name → IsTableOf held paths table → Opens held name.now (Some to_come)
    → AddsLinesOfSome all table to_come before after → Answers held request true before after
match_is_answered held request all paths name table to_come before after same is opens adds =
    subst (λ r. Answers held r true before after) (sym same) (
      refl,
      table,
      is,
      adds.file,
      adds.bytes,
      holds_read held name.now to_come adds.file opens adds.is_to_come,
      adds.adds_lines,
    )

pub check_is_answered : (held : Holding) (request : Request) (paths : TablePaths) (name : Bor (List ℕ)) (table : TableView)
    (to_come before after : Option (List ℕ)) (is_yes : Bool) → request ≡ Check paths name → IsTableOf held paths table → Opens held name.now (Some to_come)
    → AddsVerdictOfSome is_yes table to_come before after → Answers held request is_yes before after
check_is_answered held request paths name table to_come before after is_yes same is opens adds =
    subst (λ r. Answers held r is_yes before after) (sym same) (
      table,
      is,
      adds.certificate,
      adds.bytes,
      holds_read held name.now to_come adds.certificate opens adds.is_to_come,
      adds.adds_verdict,
    )

pub witness_is_answered : (held : Holding) (request : Request) (paths : TablePaths) (name : Bor (List ℕ)) (table : TableView)
    (to_come before after : Option (List ℕ)) (is_yes : Bool) → request ≡ Witness paths name → IsTableOf held paths table → Opens held name.now (Some to_come)
    → AddsWitnessOfSome is_yes table to_come before after → Answers held request is_yes before after
witness_is_answered held request paths name table to_come before after is_yes same is opens adds =
    subst (λ r. Answers held r is_yes before after) (sym same) (
      table,
      is,
      adds.file,
      adds.bytes,
      holds_read held name.now to_come adds.file opens adds.is_to_come,
      adds.adds_witness,
    )

-- why one file has no answer
pub match_fault : {R : Type 0} (failed : R → Bool) (held : Holding) (paths : TablePaths) (name : Bor (List ℕ)) (all : Bool) (table : TableView)
    (error : RunError) → IsTableOf held paths table → Has held name.now → (error ≡ Read → SomeFailed failed)
    → IsFaultOf failed held (Match all paths name) (Run error)
match_fault failed held paths name all table Read is has read = inr (inr (inl ((table, is), inl (has, read refl))))
match_fault failed held paths name all table Write is has read = inr (inr (inl ((table, is), inl has)))
match_fault failed held paths name all table OutOfMemory is has read = inr (inl refl)
