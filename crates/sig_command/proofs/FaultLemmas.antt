-- A fault of a request, by what the output has then.
use Rattle.std.proofs.Common.{◌≡◌, ◌≢◌, ◌⊎◌, Bool, Err, IfErr, IfOk, List, None, Ok, OnOk, Option, Result, ℕ, ap, false, inl, inr, refl, subst, sym, true, ◌∙◌}
use Rattle.std.specs.Borrow.{Bor}
use Rattle.std.specs.Prelude.{⊤}
use Rattle.sig_engines.specs.Stores.{Holding, IsTableOf, Opens}
use Rattle.sig_engines.specs.declared.error.CutShort.TheVariants as cut
use Rattle.sig_engines.specs.declared.error.RunError.{RunError}
use Rattle.sig_engines.specs.declared.error.RunError.TheVariants as run
use Rattle.sig_engines.specs.declared.store.TablePaths.{TablePaths}
use Rattle.sig_table.specs.Views.{TableView}
use Rattle.sig_command.proofs.StoreLemmas.{lacks_unopened}
use Rattle.sig_command.specs.Faults.{TellsWrite}
use Rattle.sig_command.specs.Requests.{Answers, HasAnswer, HasFailedWrite, HasFault, IsFaultOf, IsFolderFault, KeepsOrCuts, ListsIf, UnlessWriting}
use Rattle.sig_command.specs.declared.args.Request.{Request}
use Rattle.sig_command.specs.declared.args.Request.TheVariants.{Check, Conflicts, Dead, Find, Lint, Match, MatchMany, Show, Witness}
use Rattle.sig_command.specs.declared.fault.Fault.{Fault}
use Rattle.sig_command.specs.declared.fault.Fault.TheVariants.{CannotOpen, CutShort, FaultyTable, IsFolder, Run}

-- ---- a fault before anything is written

-- the fault tells neither of a write nor of what is told
pub record IsEarly (fault : Fault) : Type 0 where
  pub no_write : TellsWrite fault → ⊥
  pub no_table : fault ≢ FaultyTable

pub early_unopened : (name : Bor (List ℕ)) → IsEarly (CannotOpen name)
early_unopened name = record { no_write = go; no_table = λ same. cc }
  where
    go : TellsWrite (CannotOpen name) → ⊥
    go (inl same) = let bad : CannotOpen name ≡ Run run.Write = same in cc
    go (inr same) = let bad : CannotOpen name ≡ CutShort cut.Write = same in cc

pub early_folder : (name : Bor (List ℕ)) → IsEarly (IsFolder name)
early_folder name = record { no_write = go; no_table = λ same. cc }
  where
    go : TellsWrite (IsFolder name) → ⊥
    go (inl same) = let bad : IsFolder name ≡ Run run.Write = same in cc
    go (inr same) = let bad : IsFolder name ≡ CutShort cut.Write = same in cc

-- what is so needs no fault
whatever : (request : Request) (fault : Fault) (Same : Type 0) → Same → UnlessWriting request fault Same
whatever (Show table) fault Same same = λ other. same
whatever (Lint table) fault Same same = λ other told. same
whatever (Match all table path) fault Same same = λ other. same
whatever (MatchMany options table names) fault Same same = λ other some. same
whatever (Find table ask) fault Same same = λ other. same
whatever (Conflicts table options progress) fault Same same = λ other file. same
whatever (Dead table ask) fault Same same = λ other. same
whatever (Check table path) fault Same same = λ other. same
whatever (Witness table path) fault Same same = λ other. same

-- only the faults of a table are told
none_told : (held : Holding) (request : Request) (fault : Fault) (is_failed : Bool) (before after : Option (List ℕ)) → fault ≢ FaultyTable
    → ListsIf held request fault is_failed before after
none_told held (Lint table) fault is_failed before after other = λ same. absurd (other same)
none_told held (Show table) fault is_failed before after other = tt
none_told held (Match all table path) fault is_failed before after other = tt
none_told held (MatchMany options table names) fault is_failed before after other = tt
none_told held (Find table ask) fault is_failed before after other = tt
none_told held (Conflicts table options progress) fault is_failed before after other = tt
none_told held (Dead table ask) fault is_failed before after other = tt
none_told held (Check table path) fault is_failed before after other = tt
none_told held (Witness table path) fault is_failed before after other = tt

-- the output is as it was
pub unwritten : {R F W : Type 0} (failed : R → Bool) (write_failed : F → Bool) (held : Holding) (request : Request) (is_failed : W → Bool)
    (written : W → Option (List ℕ)) (out : W) (fault : Fault) → IsFaultOf failed held request fault → IsEarly fault
    → HasFault failed write_failed held request is_failed written out out fault
unwritten failed write_failed held request is_failed written out fault is early = record {
  is = is;
  write = λ tells. absurd (early.no_write tells);
  untouched = whatever request fault (out ≡ out) refl;
  lists = none_told held request fault (is_failed out) (written out) (written out) early.no_table;
  whole = λ other sound. inl refl;
}

-- ---- an engine that reads all before it writes

-- the request has such an engine, and needs no file to be made
abbrev pub WritesLast : Request → Type 0
WritesLast (Show table) = ⊤
WritesLast (Lint table) = ⊤
WritesLast (Match all table path) = ⊤
WritesLast (MatchMany options table names) = ⊥
WritesLast (Find table ask) = ⊥
WritesLast (Conflicts table options progress) = ⊥
WritesLast (Dead table ask) = ⊥
WritesLast (Check table path) = ⊤
WritesLast (Witness table path) = ⊤

is_failed_write : {F : Type 0} (write_failed : F → Bool) (is_failed : Bool) (request : Request) → WritesLast request → is_failed ≡ true
    → HasFailedWrite write_failed is_failed request
is_failed_write write_failed is_failed (Show table) last is = is
is_failed_write write_failed is_failed (Lint table) last is = is
is_failed_write write_failed is_failed (Match all table path) last is = is
is_failed_write write_failed is_failed (MatchMany options table names) last is = is
is_failed_write write_failed is_failed (Find table ask) last is = absurd last
is_failed_write write_failed is_failed (Conflicts table options progress) last is = absurd last
is_failed_write write_failed is_failed (Dead table ask) last is = is
is_failed_write write_failed is_failed (Check table path) last is = is
is_failed_write write_failed is_failed (Witness table path) last is = is

-- a failed write is a fault of its own
kept_unless : (request : Request) (error : RunError) (Same : Type 0) → WritesLast request → (error ≢ run.Write → Same) → UnlessWriting request (Run error) Same
kept_unless (Show table) error Same last same = λ other. same (λ is. other (ap Run is))
kept_unless (Lint table) error Same last same = λ other told. same (λ is. other (ap Run is))
kept_unless (Match all table path) error Same last same = λ other. same (λ is. other (ap Run is))
kept_unless (MatchMany options table names) error Same last same = absurd last
kept_unless (Find table ask) error Same last same = absurd last
kept_unless (Conflicts table options progress) error Same last same = absurd last
kept_unless (Dead table ask) error Same last same = absurd last
kept_unless (Check table path) error Same last same = λ other. same (λ is. other (ap Run is))
kept_unless (Witness table path) error Same last same = λ other. same (λ is. other (ap Run is))

-- the output is as it was unless a write failed
pub run_fault : {R F W : Type 0} (failed : R → Bool) (write_failed : F → Bool) (held : Holding) (request : Request) (is_failed : W → Bool)
    (written : W → Option (List ℕ)) (before after : W) (error : RunError) → WritesLast request → IsFaultOf failed held request (Run error)
    → (error ≡ run.Write → is_failed after ≡ true) → (error ≢ run.Write → after ≡ before)
    → HasFault failed write_failed held request is_failed written before after (Run error)
run_fault failed write_failed held request is_failed written before after error last is write kept = record {
  is = is;
  write = λ tells. is_failed_write write_failed (is_failed after) request last (write (by_write error tells));
  untouched = kept_unless request error (after ≡ before) last kept;
  lists = none_told held request (Run error) (is_failed after) (written before) (written after) (λ same. let bad : Run error ≡ FaultyTable = same in cc);
  whole = λ other sound. inl (kept (λ same. let bad : false ≡ true = sym sound ∙ write same in cc));
}
  where
    by_write : (e : RunError) → TellsWrite (Run e) → e ≡ run.Write
    by_write run.Write tells = refl
    by_write run.Read (inl same) = let bad : Run run.Read ≡ Run run.Write = same in cc
    by_write run.Read (inr same) = let bad : Run run.Read ≡ CutShort cut.Write = same in cc
    by_write run.OutOfMemory (inl same) = let bad : Run run.OutOfMemory ≡ Run run.Write = same in cc
    by_write run.OutOfMemory (inr same) = let bad : Run run.OutOfMemory ≡ CutShort cut.Write = same in cc

-- what has not failed to write read or ran out of memory
pub read_last : (error : RunError) (Stays : Type 0) → (error ≡ run.Read → Stays) → (error ≡ run.OutOfMemory → Stays) → error ≢ run.Write → Stays
read_last run.Read Stays read memory other = read refl
read_last run.Write Stays read memory other = absurd (other refl)
read_last run.OutOfMemory Stays read memory other = memory refl

-- ---- a file that is not matched

pub file_unopened : {R F W : Type 0} (failed : R → Bool) (write_failed : F → Bool) (held : Holding) (all : Bool) (paths : TablePaths) (name : Bor (List ℕ))
    (table : TableView) (is_failed : W → Bool) (written : W → Option (List ℕ)) (out : W) (fault : Fault) → IsTableOf held paths table
    → ((fault ≡ CannotOpen name) × Opens held name.now None) ⊎ IsFolderFault held name fault
    → HasFault failed write_failed held (Match all paths name) is_failed written out out fault
file_unopened failed write_failed held all paths name table is_failed written out fault is (inl none) =
    subst (HasFault failed write_failed held (Match all paths name) is_failed written out out) (sym none.0)
    (unwritten failed write_failed held (Match all paths name) is_failed written out (CannotOpen name)
    (inr (inr (inl ((table, is), inl (refl, lacks_unopened held name.now none.1))))) (early_unopened name))
file_unopened failed write_failed held all paths name table is_failed written out fault is (inr folder) =
    subst (HasFault failed write_failed held (Match all paths name) is_failed written out out) (sym folder.0)
    (unwritten failed write_failed held (Match all paths name) is_failed written out (IsFolder name) (inr (inr (inl ((table, is), inr (refl, folder.1)))))
    (early_folder name))

-- ---- put together, of a result

pub has_answer : {W : Type 0} (held : Holding) (request : Request) (is_failed : W → Bool) (written : W → Option (List ℕ)) (before after : W)
    (result : Result Bool Fault) → IfOk result (λ is_yes. Answers held request is_yes (written before) (written after)) → OnOk result (is_failed after ≡ false)
    → IfOk result (HasAnswer held request is_failed written before after)
has_answer held request is_failed written before after (Ok is_yes) answers shown = record { answers = answers; shown = shown }
has_answer held request is_failed written before after (Err fault) answers shown = tt

pub has_fault : {R F W : Type 0} (failed : R → Bool) (write_failed : F → Bool) (held : Holding) (request : Request) (is_failed : W → Bool)
    (written : W → Option (List ℕ)) (before after : W) (result : Result Bool Fault) → IfErr result (IsFaultOf failed held request)
    → IfErr result (λ fault. TellsWrite fault → HasFailedWrite write_failed (is_failed after) request)
    → IfErr result (λ fault. UnlessWriting request fault (after ≡ before))
    → ((fault : Fault) → ListsIf held request fault (is_failed after) (written before) (written after))
    → IfErr result (λ fault. KeepsOrCuts failed held request is_failed written before after)
    → IfErr result (HasFault failed write_failed held request is_failed written before after)
has_fault failed write_failed held request is_failed written before after (Ok is_yes) is write untouched lists whole = tt
has_fault failed write_failed held request is_failed written before after (Err fault) is write untouched lists whole =
    record { is = is; write = write; untouched = untouched; lists = lists fault; whole = λ other. whole }
