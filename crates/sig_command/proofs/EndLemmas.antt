-- How a run ends, whatever is asked for.
use Rattle.std.proofs.Common.{◌≡◌, ◌≢◌, ◌⊎◌, ℕ, ◌<◌, ◌≤◌, Bool, List, [], ◌∷◌, ◌++◌, length, length-append, None, Option, Some, ap, arith, false, inl, inr, refl, subst, sym, true, ◌∙◌}
use Rattle.std.proofs.lemmas.List.{append-nil}
use Rattle.std.specs.Borrow.{Bor}
use Rattle.clap.specs.Words.{HasKind, IsAmong, Text, kind_of}
use Rattle.clap.specs.declared.error.Error.{Error}
use Rattle.clap.specs.declared.error.kind.ErrorKind.{ErrorKind}
use Rattle.clap.specs.declared.error.kind.ErrorKind.TheVariants as kind
use Rattle.clap.specs.declared.error.kind.ErrorKind.TheVariants.{DisplayHelp, DisplayVersion}
use Rattle.sig_bits.specs.Device.{Adds}
use Rattle.sig_engines.specs.ManyFiles.{run_text, summary_text, tally_of}
use Rattle.sig_engines.specs.Stores.{CannotMake, Holding}
use Rattle.sig_engines.specs.Tallies.{none_yet}
use Rattle.sig_engines.specs.declared.error.CutShort.{CutShort as Cut}
use Rattle.sig_engines.specs.declared.error.CutShort.TheVariants as cut
use Rattle.sig_engines.specs.declared.error.RunError.{RunError}
use Rattle.sig_engines.specs.declared.error.RunError.TheVariants as run
use Rattle.sig_engines.specs.declared.format_names.NamesError.{NamesError}
use Rattle.sig_engines.specs.declared.format_names.NamesError.TheVariants as names
use Rattle.sig_engines.specs.declared.witness_name.WitnessName.{WitnessName}
use Rattle.sig_table.specs.declared.error.TableError.{TableError}
use Rattle.sig_table.specs.declared.error.TableError.TheVariants as table
use Rattle.sig_command.specs.CommandLine.{AreTaken, Asks, HasFaultKind, IsHelpAsked, fault_of_words, subcommand_of_words}
use Rattle.sig_command.specs.Endings.{AddsSome, AnswersAndMakes, EndsByFault, EndsByKind, KeepsErrors, KeepsOutput, ReportsMemory, TellsBy}
use Rattle.sig_command.specs.Faults.{Reports, ReportsLine, TellsWrite, fault_line, fault_text, line_end}
use Rattle.sig_command.specs.Requests.{Behind, CutsSomeWords, CutsWords, HasFailedWrite, HasFault, IsCutRequest, IsFaultOf, IsFirstFault, IsFolderFault}
use Rattle.sig_command.specs.Requests.{IsLaterFault, IsListFault, IsNamesFaultOf, Joins, ListsIf, ListsRequest, ListsSomeWords, ListsWords, ReportsFaultOf}
use Rattle.sig_command.specs.Requests.{ReportsLineOf, Shows, ShowsBefore, ShowsSomeWords, ShowsWords, TellsOf, UnlessWriting}
use Rattle.sig_command.specs.Several.{ReportsFiles}
use Rattle.sig_command.proofs.SeveralLemmas.{memory_before}
use Rattle.sig_command.specs.Statuses.{kind_status, names_status, status_of, table_status}
use Rattle.sig_command.specs.declared.args.FileNames.{FileNames}
use Rattle.sig_command.specs.declared.args.FileNames.TheVariants.{Input, Words}
use Rattle.sig_command.specs.declared.args.FileNames.TheVariants as source
use Rattle.sig_command.specs.declared.args.Request.{Request}
use Rattle.sig_command.specs.declared.args.Request.TheVariants.{Check, Conflicts, Dead, Find, Lint, Match, MatchMany, Show, Witness}
use Rattle.sig_command.specs.declared.fault.Fault.{Fault}
use Rattle.sig_command.specs.declared.fault.Fault.TheVariants.{CannotOpen, CutShort, FaultyTable, IsFolder, Names, NoFile, NotInTable, NotText, Run, SomeFiles}
use Rattle.sig_command.specs.declared.fault.Fault.TheVariants.{SummaryOfOne, Table}

-- memory can run out for whatever is asked
pub memory_of : {R : Type 0} (failed : R → Bool) (held : Holding) (request : Request) → IsFaultOf failed held request (Run run.OutOfMemory)
memory_of failed held request = inr (inl refl)

-- and then nothing is shown before that is told
pub memory_first : {R : Type 0} (failed : R → Bool) (held : Holding) (request : Request) (before after err : Option (List ℕ))
    → ShowsBefore failed held request (Run run.OutOfMemory) before after err err
memory_first failed held request before after err = (inl refl, go request)
  where
    go : (request : Request) → Joins failed held request (Run run.OutOfMemory) before after false err err
    go (Show table) = tt
    go (Lint table) = tt
    go (Match all table file) = tt
    go (MatchMany options table names) = inl (memory_before, refl)
    go (Find table ask) = tt
    go (Conflicts table options progress) = tt
    go (Dead table ask) = tt
    go (Check table certificate) = tt
    go (Witness table file) = tt

-- ---- a fault of two kinds, which tells more than its line

-- a fault is none of these
no_such : {R : Type 0} (failed : R → Bool) (held : Holding) (request : Request) (reason : Fault) → reason ≢ Run run.OutOfMemory → reason ≢ SummaryOfOne
    → (IsFirstFault failed held request reason → ⊥) → (IsLaterFault failed held request reason → ⊥) → IsFaultOf failed held request reason → ⊥
no_such failed held request reason memory two first later (inl is) = first is
no_such failed held request reason memory two first later (inr (inl is)) = memory is
no_such failed held request reason memory two first later (inr (inr (inl is))) = later is.1
no_such failed held request reason memory two first later (inr (inr (inr is))) = two is.0

-- names of formats have faults of two kinds
no_names : {R : Type 0} (failed : R → Bool) (held : Holding) (path : Option (Bor Text)) (reason : Fault) → ((name : Bor Text) → reason ≢ CannotOpen name)
    → ((error : NamesError) → reason ≢ Names error) → IsNamesFaultOf failed held path reason → ⊥
no_names failed held None reason unopened names is = is
no_names failed held (Some path) reason unopened names (inl is) = unopened path is.0
no_names failed held (Some path) reason unopened names (inr is) = names is.0 is.1

-- a list of names has faults of three kinds
no_list : {R : Type 0} (failed : R → Bool) (held : Holding) (names : FileNames) (reason : Fault) → ((e : RunError) → reason ≢ Run e)
    → ((name : Bor Text) → reason ≢ CannotOpen name) → ((name : Bor Text) → reason ≢ IsFolder name) → IsListFault failed held names reason → ⊥
no_list failed held (Words words) reason ended unopened folder is = is
no_list failed held (source.List list end) reason ended unopened folder (inr is) = folder list is.0
no_list failed held (source.List list end) NotText ended unopened folder (inl is) = is
no_list failed held (source.List list end) (CannotOpen name) ended unopened folder (inl is) = unopened name refl
no_list failed held (source.List list end) (IsFolder name) ended unopened folder (inl is) = is
no_list failed held (source.List list end) (NoFile folder_name witness) ended unopened folder (inl is) = is
no_list failed held (source.List list end) (Table error) ended unopened folder (inl is) = is
no_list failed held (source.List list end) NotInTable ended unopened folder (inl is) = is
no_list failed held (source.List list end) SummaryOfOne ended unopened folder (inl is) = is
no_list failed held (source.List list end) (Run error) ended unopened folder (inl is) = ended error refl
no_list failed held (source.List list end) (CutShort error) ended unopened folder (inl is) = is
no_list failed held (source.List list end) SomeFiles ended unopened folder (inl is) = is
no_list failed held (source.List list end) FaultyTable ended unopened folder (inl is) = is
no_list failed held (source.List list end) (Names error) ended unopened folder (inl is) = is
no_list failed held (Input end) reason ended unopened folder is = ended run.Read is.0

-- the faults of a table are no fault of one that loads
later_faulty : {R : Type 0} (failed : R → Bool) (held : Holding) (request : Request) → IsLaterFault failed held request FaultyTable → ⊥
later_faulty failed held (Show table) is = let bad : FaultyTable ≡ Run run.Write = is in cc
later_faulty failed held (Match all table file) (inl is) = is
later_faulty failed held (Match all table file) (inr is) = let bad : FaultyTable ≡ IsFolder file = is.0 in cc
later_faulty failed held (MatchMany options table names) (inl is) = let bad : FaultyTable ≡ SomeFiles = is in cc
later_faulty failed held (MatchMany options table names) (inr (inl is)) = let bad : FaultyTable ≡ Run run.Write = is in cc
later_faulty failed held (MatchMany options table names) (inr (inr (inl is))) =
    no_list failed held names FaultyTable (λ error same. cc) (λ name same. cc) (λ name same. cc) is
later_faulty failed held (MatchMany options table names) (inr (inr (inr is))) =
    no_names failed held options.names FaultyTable (λ name same. cc) (λ error same. cc) is
later_faulty failed held (Find table ask) (inl is) = let bad : FaultyTable ≡ CannotOpen ask.out = is.0 in cc
later_faulty failed held (Find table ask) (inr is) = let bad : FaultyTable ≡ Run run.Write = is in cc
later_faulty failed held request is = is

-- they are told where `lint` is asked for, and only there
faults_are_listed : {R : Type 0} (failed : R → Bool) (held : Holding) (request : Request) (is_failed : Bool) (before after : Option (List ℕ))
    → IsFaultOf failed held request FaultyTable → ListsIf held request FaultyTable is_failed before after → (is_failed ≡ false)
    × ListsRequest held request before after
faults_are_listed failed held (Lint table) is_failed before after is lists = let told = lists refl in (told.0, (table, refl, told.1))
faults_are_listed failed held request is_failed before after is lists =
    absurd (no_such failed held request FaultyTable (λ same. let bad : FaultyTable ≡ Run run.OutOfMemory = same in cc)
    (λ same. let bad : FaultyTable ≡ SummaryOfOne = same in cc) (λ never. never) (later_faulty failed held request) is)

-- so where this is the fault
pub listed : {R : Type 0} (failed : R → Bool) (held : Holding) (request : Request) (reason : Fault) (is_failed : Bool) (before after : Option (List ℕ))
    → IsFaultOf failed held request reason → ListsIf held request reason is_failed before after → reason ≡ FaultyTable → (is_failed ≡ false)
    × ListsRequest held request before after
listed failed held request reason is_failed before after is lists same =
    faults_are_listed failed held request is_failed before after (subst (IsFaultOf failed held request) same is)
    (subst (λ fault. ListsIf held request fault is_failed before after) same lists)

-- ---- a fault is reported

-- behind what the request shows
pub line_is_reported : {R E : Type 0} (failed : R → Bool) (held : Holding) (request : Request) (reason : Fault) (status : ℕ) (is_failed : E → Bool)
    (written : E → Option (List ℕ)) (err mid : E) (before after err_after : Option (List ℕ)) → TellsOf failed held request false is_failed written err mid
    → Joins failed held request reason before after (is_failed mid) (written err) (written mid) → is_failed mid ≡ false
    → Reports reason status (written mid) err_after → ReportsLineOf failed held request reason status before after (written err) err_after
line_is_reported failed held request reason status is_failed written err mid before after err_after told joins sound reports =
    (written mid, (shown told, subst (λ b. Joins failed held request reason before after b (written err) (written mid)) sound joins), reports)
  where
    shown : (mid ≡ err) ⊎ Shows failed held request false (is_failed mid) (written err) (written mid) → (written mid ≡ written err)
        ⊎ Shows failed held request false false (written err) (written mid)
    shown (inl same) = inl (ap written same)
    shown (inr shows) = inr (subst (λ b. Shows failed held request false b (written err) (written mid)) sound shows)

pub fault_is_reported : {R F W E : Type 0} (failed : R → Bool) (write_failed : F → Bool) (held : Holding) (request : Request) (reason : Fault) (status : ℕ)
    (out_failed : W → Bool) (out_written : W → Option (List ℕ)) (before after : W) (is_failed : E → Bool) (written : E → Option (List ℕ)) (err mid last : E)
    → HasFault failed write_failed held request out_failed out_written before after reason → TellsOf failed held request false is_failed written err mid
    → Joins failed held request reason (out_written before) (out_written after) (is_failed mid) (written err) (written mid) → status ≡ status_of reason
    → (is_failed last ≡ false → is_failed mid ≡ false) → (is_failed last ≡ false → Reports reason status (written mid) (written last))
    → ReportsFaultOf failed (HasFailedWrite write_failed (out_failed after)) held request status (out_written before) (out_written after) (is_failed last)
    (written err) (written last)
fault_is_reported failed write_failed held request reason status out_failed out_written before after is_failed written err mid last of told joins ends sound
    reports = record {
      reason = reason;
      is = of.is;
      write = of.write;
      ends = ends;
      lists = λ same. (listed failed held request reason (out_failed after) (out_written before) (out_written after) of.is of.lists same).1;
      line = λ whole. line_is_reported failed held request reason status is_failed written err mid (out_written before) (out_written after) (written last) told
          joins (sound whole) (reports whole);
    }

-- before there is a request to look at, memory ran out
pub memory_is_reported : {R E : Type 0} (failed : R → Bool) (WriteFailed : Request → Type 0) (held : Holding) (request : Request) (status : ℕ)
    (is_failed : E → Bool) (written : E → Option (List ℕ)) (err last : E) (before after : Option (List ℕ)) → status ≡ 3
    → (is_failed last ≡ false → ReportsMemory (written err) (written last))
    → ReportsFaultOf failed WriteFailed held request status before after (is_failed last) (written err) (written last)
memory_is_reported failed WriteFailed held request status is_failed written err last before after ends reports = record {
  reason = Run run.OutOfMemory;
  is = memory_of failed held request;
  write = λ tells. absurd (no_write tells);
  ends = ends;
  lists = λ same. let bad : Run run.OutOfMemory ≡ FaultyTable = same in cc;
  line = λ whole. (
    written err,
    memory_first failed held request before after (written err),
    subst (λ (s : ℕ). Reports (Run run.OutOfMemory) s (written err) (written last)) (sym ends) (reports whole),
  );
}
  where
    no_write : TellsWrite (Run run.OutOfMemory) → ⊥
    no_write (inl same) = let bad : Run run.OutOfMemory ≡ Run run.Write = same in cc
    no_write (inr same) = let bad : Run run.OutOfMemory ≡ CutShort cut.Write = same in cc

-- ---- one line, or those of several files

-- nothing is added behind a text
nothing_behind : (before mid after : Option (List ℕ)) (text : List ℕ) → Adds before text mid → Adds mid [] after → Adds before text after
nothing_behind None mid after text first second = tt
nothing_behind (Some before) None after text first second = absurd first
nothing_behind (Some before) (Some mid) None text first second = absurd second
nothing_behind (Some before) (Some mid) (Some after) text first second = second ∙ append-nil mid ∙ first

-- only of several files some have a fault
first_files : {R : Type 0} (failed : R → Bool) (held : Holding) (request : Request) → IsFirstFault failed held request SomeFiles → ⊥
first_files failed held (Lint table) is = is
first_files failed held request is = is

no_files : {R : Type 0} (failed : R → Bool) (held : Holding) (request : Request) → (IsLaterFault failed held request SomeFiles → ⊥)
    → IsFaultOf failed held request SomeFiles → ⊥
no_files failed held request never is =
    no_such failed held request SomeFiles (λ same. let bad : SomeFiles ≡ Run run.OutOfMemory = same in cc)
    (λ same. let bad : SomeFiles ≡ SummaryOfOne = same in cc) (first_files failed held request) never is

-- and then each fault is told
files_are_reported : {R : Type 0} (failed : R → Bool) (held : Holding) (request : Request) (status : ℕ) (before after : Option (List ℕ)) (is_failed : Bool)
    (err_before mid err_after : Option (List ℕ)) → IsFaultOf failed held request SomeFiles
    → Joins failed held request SomeFiles before after is_failed err_before mid → is_failed ≡ false → Reports SomeFiles status mid err_after
    → ReportsFiles err_before err_after
files_are_reported failed held (Show table) status before after is_failed err_before mid err_after is joins sound reports =
    absurd (no_files failed held (Show table) (λ same. let bad : SomeFiles ≡ Run run.Write = same in cc) is)
files_are_reported failed held (Lint table) status before after is_failed err_before mid err_after is joins sound reports =
    absurd (no_files failed held (Lint table) (λ never. never) is)
files_are_reported failed held (Match all table file) status before after is_failed err_before mid err_after is joins sound reports =
    absurd (no_files failed held (Match all table file) never is)
  where
    never : ⊥ ⊎ IsFolderFault held file SomeFiles → ⊥
    never (inl is) = is
    never (inr is) = let bad : SomeFiles ≡ IsFolder file = is.0 in cc
files_are_reported failed held (MatchMany options table names) status before after is_failed err_before mid err_after is (inl quiet) sound reports =
    absurd (quiet.0.files refl)
files_are_reported failed held (MatchMany options table names) status before after is_failed err_before mid err_after is (inr joins) sound reports =
    let ask = joins.2 in
    let added = joins.4 in
    record {
      files = added.files;
      is = sym added.is;
      progress = ask.progress;
      summary = ask.summary;
      adds = nothing_behind err_before mid err_after (run_text ask.progress added.files ++ summary_text ask.summary (tally_of none_yet added.files))
          (added.reports sound) reports.adds;
    }
files_are_reported failed held (Find table ask) status before after is_failed err_before mid err_after is joins sound reports =
    absurd (no_files failed held (Find table ask) never is)
  where
    never : ((SomeFiles ≡ CannotOpen ask.out) × CannotMake held ask.out.now) ⊎ (SomeFiles ≡ Run run.Write) → ⊥
    never (inl same) = let bad : SomeFiles ≡ CannotOpen ask.out = same.0 in cc
    never (inr same) = let bad : SomeFiles ≡ Run run.Write = same in cc
files_are_reported failed held (Conflicts table options progress) status before after is_failed err_before mid err_after is joins sound reports =
    absurd (no_files failed held (Conflicts table options progress) (λ never. never) is)
files_are_reported failed held (Dead table ask) status before after is_failed err_before mid err_after is joins sound reports =
    absurd (no_files failed held (Dead table ask) (λ never. never) is)
files_are_reported failed held (Check table certificate) status before after is_failed err_before mid err_after is joins sound reports =
    absurd (no_files failed held (Check table certificate) (λ never. never) is)
files_are_reported failed held (Witness table file) status before after is_failed err_before mid err_after is joins sound reports =
    absurd (no_files failed held (Witness table file) (λ never. never) is)

-- some line stands behind what the words show
some_line : {R E : Type 0} (failed : R → Bool) (held : Holding) (words : List Text) (request : Request) (reason : Fault) (status : ℕ) (is_failed : E → Bool)
    (written : E → Option (List ℕ)) (err mid : E) (before after err_after : Option (List ℕ)) → Asks (subcommand_of_words words) request
    → IsFaultOf failed held request reason → TellsOf failed held request false is_failed written err mid
    → Joins failed held request reason before after (is_failed mid) (written err) (written mid) → is_failed mid ≡ false
    → Reports reason status (written mid) err_after → Behind (ShowsWords failed held words false false) (ReportsLine status) (written err) err_after
    ⊎ ReportsFiles (written err) err_after
some_line failed held words request reason status is_failed written err mid before after err_after asks is told joins sound reports = go reason is joins reports
  where
    shown : (mid : Option (List ℕ)) → (mid ≡ written err) ⊎ Shows failed held request false false (written err) mid → (mid ≡ written err)
        ⊎ ShowsWords failed held words false false (written err) mid
    shown mid (inl same) = inl same
    shown mid (inr shows) = inr (request, asks, shows)

    one : (reason : Fault) → reason ≢ SomeFiles → Joins failed held request reason before after (is_failed mid) (written err) (written mid)
        → Reports reason status (written mid) err_after → Behind (ShowsWords failed held words false false) (ReportsLine status) (written err) err_after
        ⊎ ReportsFiles (written err) err_after
    one reason other joins reports =
        let line : ReportsLineOf failed held request reason status before after (written err) err_after =
        line_is_reported failed held request reason status is_failed written err mid before after err_after told joins sound reports in
        inl (record { mid = line.0; shown = shown line.0 line.1.0; rest = (reason, other, line.2) })

    go : (reason : Fault) → IsFaultOf failed held request reason → Joins failed held request reason before after (is_failed mid) (written err) (written mid)
        → Reports reason status (written mid) err_after → Behind (ShowsWords failed held words false false) (ReportsLine status) (written err) err_after
        ⊎ ReportsFiles (written err) err_after
    go SomeFiles is joins reports = inr (files_are_reported failed held request status before after (is_failed mid) (written err) (written mid) err_after is
        joins sound reports)
    go NotText is joins reports = one NotText (λ same. let bad : NotText ≡ SomeFiles = same in cc) joins reports
    go (CannotOpen name) is joins reports = one (CannotOpen name) (λ same. let bad : CannotOpen name ≡ SomeFiles = same in cc) joins reports
    go (IsFolder name) is joins reports = one (IsFolder name) (λ same. let bad : IsFolder name ≡ SomeFiles = same in cc) joins reports
    go (NoFile folder name) is joins reports = one (NoFile folder name) (λ same. let bad : NoFile folder name ≡ SomeFiles = same in cc) joins reports
    go (Table error) is joins reports = one (Table error) (λ same. let bad : Table error ≡ SomeFiles = same in cc) joins reports
    go NotInTable is joins reports = one NotInTable (λ same. let bad : NotInTable ≡ SomeFiles = same in cc) joins reports
    go SummaryOfOne is joins reports = one SummaryOfOne (λ same. let bad : SummaryOfOne ≡ SomeFiles = same in cc) joins reports
    go (Run error) is joins reports = one (Run error) (λ same. let bad : Run error ≡ SomeFiles = same in cc) joins reports
    go (CutShort error) is joins reports = one (CutShort error) (λ same. let bad : CutShort error ≡ SomeFiles = same in cc) joins reports
    go FaultyTable is joins reports = one FaultyTable (λ same. let bad : FaultyTable ≡ SomeFiles = same in cc) joins reports
    go (Names error) is joins reports = one (Names error) (λ same. let bad : Names error ≡ SomeFiles = same in cc) joins reports

-- a fault is no answer
high_table : (error : TableError) → 2 ≤ table_status error
high_table (table.Read file) = omega arith
high_table table.OutOfMemory = omega arith
high_table _ = omega arith

high_names : (error : NamesError) → 2 ≤ names_status error
high_names names.Read = omega arith
high_names names.OutOfMemory = omega arith
high_names _ = omega arith

high_status : (reason : Fault) → 2 ≤ status_of reason
high_status NotText = omega arith
high_status (CannotOpen name) = omega arith
high_status (IsFolder name) = omega arith
high_status (NoFile folder name) = omega arith
high_status (Table error) = high_table error
high_status NotInTable = omega arith
high_status SummaryOfOne = omega arith
high_status (Run error) = omega arith
high_status (CutShort error) = omega arith
high_status SomeFiles = omega arith
high_status FaultyTable = omega arith
high_status (Names error) = high_names error

never_low : (status : ℕ) (reason : Fault) → status ≡ status_of reason → status < 2 → ⊥
never_low status reason ends low = let high = high_status reason in omega (arith, low, high, ends)

-- the line of a fault ends, but where each one is told already
line_ends : (reason : Fault) → (line_end reason ≡ 10 ∷ []) ⊎ ((reason ≡ SomeFiles) ⊎ (reason ≡ FaultyTable))
line_ends NotText = inl refl
line_ends (CannotOpen name) = inl refl
line_ends (IsFolder name) = inl refl
line_ends (NoFile folder name) = inl refl
line_ends (Table error) = inl refl
line_ends NotInTable = inl refl
line_ends SummaryOfOne = inl refl
line_ends (Run error) = inl refl
line_ends (CutShort error) = inl refl
line_ends SomeFiles = inr (inl refl)
line_ends FaultyTable = inr (inr refl)
line_ends (Names error) = inl refl

-- so it has a byte
some_bytes : (reason : Fault) → line_end reason ≡ 10 ∷ [] → 0 < length (fault_line reason)
some_bytes reason ends =
    let long = length-append (fault_text reason) (line_end reason) in
    let one : length (line_end reason) ≡ 1 = ap (λ l. length l) ends in
    omega arith

-- with 2 it says why, or the faults are listed
says_why : {R E : Type 0} (failed : R → Bool) (held : Holding) (words : List Text) (request : Request) (reason : Fault) (status : ℕ) (is_failed : E → Bool)
    (written : E → Option (List ℕ)) (err mid : E) (before after err_after : Option (List ℕ)) (out_failed : Bool) → Asks (subcommand_of_words words) request
    → IsFaultOf failed held request reason → ListsIf held request reason out_failed before after → TellsOf failed held request false is_failed written err mid
    → Joins failed held request reason before after (is_failed mid) (written err) (written mid) → status ≡ status_of reason → status ≡ 2
    → is_failed mid ≡ false → Reports reason status (written mid) err_after
    → Behind (ShowsWords failed held words false false) AddsSome (written err) err_after ⊎ ListsWords held words before after
says_why failed held words request reason status is_failed written err mid before after err_after out_failed asks is lists told joins ends two sound reports =
    go (line_ends reason)
  where
    shown : (mid : Option (List ℕ)) → (mid ≡ written err) ⊎ Shows failed held request false false (written err) mid → (mid ≡ written err)
        ⊎ ShowsWords failed held words false false (written err) mid
    shown mid (inl same) = inl same
    shown mid (inr shows) = inr (request, asks, shows)

    go : (line_end reason ≡ 10 ∷ []) ⊎ ((reason ≡ SomeFiles) ⊎ (reason ≡ FaultyTable))
        → Behind (ShowsWords failed held words false false) AddsSome (written err) err_after ⊎ ListsWords held words before after
    go (inl end) =
        let line : ReportsLineOf failed held request reason status before after (written err) err_after =
        line_is_reported failed held request reason status is_failed written err mid before after err_after told joins sound reports in
        inl (record { mid = line.0; shown = shown line.0 line.1.0; rest = (fault_line reason, some_bytes reason end, line.2.adds) })
    go (inr (inl files)) = let three : status_of reason ≡ 3 = ap status_of files in absurd (omega (arith, three, ends, two))
    go (inr (inr faulty)) = inr (request, asks, (listed failed held request reason out_failed before after is lists faulty).1)

pub fault_keeps_errors : {R E : Type 0} (failed : R → Bool) (held : Holding) (words : List Text) (request : Request) (reason : Fault) (status : ℕ)
    (is_failed : E → Bool) (written : E → Option (List ℕ)) (err mid last : E) (before after : Option (List ℕ)) (out_failed : Bool)
    → Asks (subcommand_of_words words) request → IsFaultOf failed held request reason → ListsIf held request reason out_failed before after
    → TellsOf failed held request false is_failed written err mid
    → Joins failed held request reason before after (is_failed mid) (written err) (written mid) → status ≡ status_of reason
    → (is_failed last ≡ false → is_failed mid ≡ false) → (is_failed last ≡ false → Reports reason status (written mid) (written last))
    → KeepsErrors (ShowsWords failed held words) (ListsWords held words before after) status (is_failed last) err last (written err) (written last)
fault_keeps_errors failed held words request reason status is_failed written err mid last before after out_failed asks is lists told joins ends sound reports =
    record {
      quiet = λ low. absurd (never_low status reason ends low);
      refused = λ two whole. says_why failed held words request reason status is_failed written err mid before after (written last) out_failed asks is lists
          told joins ends two (sound whole) (reports whole);
      reported = λ three whole.
          subst (λ (s : ℕ). Behind (ShowsWords failed held words false false) (ReportsLine s) (written err) (written last)
          ⊎ ReportsFiles (written err) (written last)) three
          (some_line failed held words request reason status is_failed written err mid before after (written last) asks is told joins (sound whole)
          (reports whole));
    }

-- so where nothing is shown before
pub line_keeps_errors : {E : Type 0} (Shown : Bool → Bool → Option (List ℕ) → Option (List ℕ) → Type 0) (Lists : Type 0) (reason : Fault) (status : ℕ)
    (is_failed : Bool) (before after : E) (written written_after : Option (List ℕ)) → line_end reason ≡ 10 ∷ [] → status ≡ status_of reason
    → (is_failed ≡ false → Reports reason status written written_after) → KeepsErrors Shown Lists status is_failed before after written written_after
line_keeps_errors Shown Lists reason status is_failed before after written written_after end ends reports = record {
  quiet = λ low. absurd (never_low status reason ends low);
  refused = λ two whole. inl (record { mid = written; shown = inl refl; rest = (fault_line reason, some_bytes reason end, (reports whole).adds) });
  reported = λ three whole.
      inl (record { mid = written; shown = inl refl; rest = (reason, other, subst (λ (s : ℕ). Reports reason s written written_after) three (reports whole)) });
}
  where
    other : reason ≢ SomeFiles
    other same = let bad : line_end SomeFiles ≡ 10 ∷ [] = ap line_end (sym same) ∙ end in cc

-- a fault of the words before they are known
pub words_keep_errors : {E : Type 0} (Shown : Bool → Bool → Option (List ℕ) → Option (List ℕ) → Type 0) (Lists : Type 0) (reason : Fault) (status : ℕ)
    (is_failed : Bool) (before after : E) (written written_after : Option (List ℕ)) → (reason ≡ NotText) ⊎ (reason ≡ Run run.OutOfMemory)
    → status ≡ status_of reason → (is_failed ≡ false → Reports reason status written written_after)
    → KeepsErrors Shown Lists status is_failed before after written written_after
words_keep_errors Shown Lists reason status is_failed before after written written_after is =
    line_keeps_errors Shown Lists reason status is_failed before after written written_after (end is)
  where
    end : (reason ≡ NotText) ⊎ (reason ≡ Run run.OutOfMemory) → line_end reason ≡ 10 ∷ []
    end (inl same) = ap line_end same
    end (inr same) = ap line_end same

-- where nothing is shown, whatever may be shown
pub nothing_is_shown : {E : Type 0} (Shown : Bool → Bool → Option (List ℕ) → Option (List ℕ) → Type 0) (Lists : Type 0) (status : ℕ) (is_failed : Bool)
    (before after : E) (written written_after : Option (List ℕ))
    → KeepsErrors (λ is_answered fails first last. ⊥) ⊥ status is_failed before after written written_after
    → KeepsErrors Shown Lists status is_failed before after written written_after
nothing_is_shown Shown Lists status is_failed before after written written_after keeps = record {
  quiet = λ low. inl (same (keeps.quiet low));
  refused = λ two whole. refused (keeps.refused two whole);
  reported = λ three whole. reported (keeps.reported three whole);
}
  where
    same : (after ≡ before) ⊎ ⊥ → after ≡ before
    same (inl is) = is
    same (inr never) = absurd never

    first : (m : Option (List ℕ)) → (m ≡ written) ⊎ ⊥ → (m ≡ written) ⊎ Shown false false written m
    first m (inl is) = inl is
    first m (inr never) = absurd never

    refused : Behind (λ first last. ⊥) AddsSome written written_after ⊎ ⊥ → Behind (Shown false false) AddsSome written written_after ⊎ Lists
    refused (inl b) = inl (record { mid = b.mid; shown = first b.mid b.shown; rest = b.rest })
    refused (inr never) = absurd never

    reported : Behind (λ first last. ⊥) (ReportsLine 3) written written_after ⊎ ReportsFiles written written_after
        → Behind (Shown false false) (ReportsLine 3) written written_after ⊎ ReportsFiles written written_after
    reported (inl b) = inl (record { mid = b.mid; shown = first b.mid b.shown; rest = b.rest })
    reported (inr files) = inr files

-- a fault that comes before any write, whatever is asked for
record IsOutside (reason : Fault) : Type 0 where
  run : (e : RunError) → reason ≢ Run e
  cut : (e : Cut) → reason ≢ CutShort e
  file : (folder : Bor Text) (name : WitnessName) → reason ≢ NoFile folder name
  files : reason ≢ SomeFiles
  table : reason ≢ FaultyTable

before_writing : (request : Request) (reason : Fault) (Same : Type 0) → UnlessWriting request reason Same → IsOutside reason → Same
before_writing (Show table) reason Same same is = same (is.run run.Write)
before_writing (Lint table) reason Same same is = same (is.run run.Write) is.table
before_writing (Match all table file) reason Same same is = same (is.run run.Write)
before_writing (MatchMany options table names) reason Same same is = same is.run is.files
before_writing (Find table ask) reason Same same is = same (is.run run.Write)
before_writing (Conflicts table options progress) reason Same same is = same is.cut is.file
before_writing (Dead table ask) reason Same same is = same is.cut
before_writing (Check table certificate) reason Same same is = same (is.run run.Write)
before_writing (Witness table file) reason Same same is = same (is.run run.Write)

-- with 2 the output is as it was, or has the faults of a table; with 3 an answer may be cut short
pub fault_keeps_output : {R F W : Type 0} (failed : R → Bool) (write_failed : F → Bool) (held : Holding) (words : List Text) (request : Request)
    (reason : Fault) (status : ℕ) (is_failed : W → Bool) (written : W → Option (List ℕ)) (before after : W) → Asks (subcommand_of_words words) request
    → HasFault failed write_failed held request is_failed written before after reason → status ≡ status_of reason
    → KeepsOutput (CutsWords failed held words (written before) (written after)) (ListsWords held words (written before) (written after)) status
    (is_failed after) before after
fault_keeps_output failed write_failed held words request reason status is_failed written before after asks of ends = record {
  shown = λ low. absurd (never_low status reason ends low);
  refused = λ two. refused reason of.is (sym two ∙ ends) (before_writing request reason (after ≡ before) of.untouched) of.lists;
  whole = λ three sound. whole (of.whole (λ same. let bad : 3 ≡ 2 = sym three ∙ ends ∙ ap status_of same in omega (arith, bad)) sound);
}
  where
    whole : (after ≡ before) ⊎ IsCutRequest failed held request (written before) (written after) → (after ≡ before)
        ⊎ CutsWords failed held words (written before) (written after)
    whole (inl same) = inl same
    whole (inr cut) = inr (request, asks, cut)

    refused : (reason : Fault) → IsFaultOf failed held request reason → 2 ≡ status_of reason → (IsOutside reason → after ≡ before)
        → ListsIf held request reason (is_failed after) (written before) (written after) → (after ≡ before)
        ⊎ ((is_failed after ≡ false) × ListsWords held words (written before) (written after))
    refused FaultyTable is two untouched lists =
        let told = faults_are_listed failed held request (is_failed after) (written before) (written after) is lists in
        inr (told.0, (request, asks, told.1))
    refused (IsFolder name) is two untouched lists = absurd (omega (arith, two))
    refused (NoFile folder name) is two untouched lists = absurd (omega (arith, two))
    refused (Run error) is two untouched lists = absurd (omega (arith, two))
    refused (CutShort error) is two untouched lists = absurd (omega (arith, two))
    refused SomeFiles is two untouched lists = absurd (omega (arith, two))
    refused NotText is two untouched lists =
        inl (untouched record { run = λ e same. cc; cut = λ e same. cc; file = λ folder name same. cc; files = λ same. cc; table = λ same. cc })
    refused (CannotOpen name) is two untouched lists =
        inl (untouched record { run = λ e same. cc; cut = λ e same. cc; file = λ folder name same. cc; files = λ same. cc; table = λ same. cc })
    refused (Table error) is two untouched lists =
        inl (untouched record { run = λ e same. cc; cut = λ e same. cc; file = λ folder name same. cc; files = λ same. cc; table = λ same. cc })
    refused NotInTable is two untouched lists =
        inl (untouched record { run = λ e same. cc; cut = λ e same. cc; file = λ folder name same. cc; files = λ same. cc; table = λ same. cc })
    refused (Names error) is two untouched lists =
        inl (untouched record { run = λ e same. cc; cut = λ e same. cc; file = λ folder name same. cc; files = λ same. cc; table = λ same. cc })
    refused SummaryOfOne is two untouched lists =
        inl (untouched record { run = λ e same. cc; cut = λ e same. cc; file = λ folder name same. cc; files = λ same. cc; table = λ same. cc })

-- nor is want of memory
pub memory_tells : {E : Type 0} (held : Holding) (words : List Text) (status : ℕ) (out_before out_after : Option (List ℕ)) (is_failed : Bool) (err last : E)
    (written written_after : Option (List ℕ)) → (AreTaken words → status ≡ 3)
    → TellsBy held words status out_before out_after is_failed err last written written_after
memory_tells held words status out_before out_after is_failed err last written written_after refused = record {
  yes = λ taken zero. let three = refused taken in absurd (omega (arith, zero, three));
  no = λ taken one. let three = refused taken in absurd (omega (arith, one, three));
}

-- ---- a fault of the words

usage_status : (k : ErrorKind) → k ≢ DisplayHelp → k ≢ DisplayVersion → kind_status k ≡ 2
usage_status DisplayHelp no_help no_version = absurd (no_help refl)
usage_status DisplayVersion no_help no_version = absurd (no_version refl)
usage_status _ no_help no_version = refl

help_status : (k : ErrorKind) → (k ≡ DisplayHelp) ⊎ (k ≡ DisplayVersion) → kind_status k ≡ 0
help_status k (inl is) = ap kind_status is
help_status k (inr is) = ap kind_status is

-- the status is that of the kind of the error, or 3
by_kind : (status : ℕ) (k : ErrorKind) → EndsByKind k status → (status ≡ 3) ⊎ (status ≡ kind_status k)
by_kind status k ends = go ends.known
  where
    go : (status ≡ 0) ⊎ ((status ≡ 2) ⊎ (status ≡ 3)) → (status ≡ 3) ⊎ (status ≡ kind_status k)
    go (inl is) = inr (is ∙ sym (help_status k (ends.help is)))
    go (inr (inl is)) = let no = ends.usage is in inr (is ∙ sym (usage_status k no.0 no.1))
    go (inr (inr is)) = inl is

pub ends_by_fault : (words : List Text) (e : Error) (status : ℕ) → HasFaultKind words e → EndsByKind (kind_of e) status → EndsByFault words status
ends_by_fault words e status kinds ends = λ some. go (kinds some)
  where
    go : HasKind (fault_of_words words) e → (status ≡ 3) ⊎ ((k : ErrorKind) × IsAmong k (fault_of_words words) × (status ≡ kind_status k))
    go (inl is) = inl (ends.memory is)
    go (inr among) = of_kind among (by_kind status (kind_of e) ends)
      where
        of_kind : IsAmong (kind_of e) (fault_of_words words) → (status ≡ 3) ⊎ (status ≡ kind_status (kind_of e)) → (status ≡ 3)
            ⊎ ((k : ErrorKind) × IsAmong k (fault_of_words words) × (status ≡ kind_status k))
        of_kind among (inl is) = inl is
        of_kind among (inr is) = inr (kind_of e, among, is)

-- an answer of clap is no answer to what the words ask for
never_one : (status : ℕ) → (status ≡ 0) ⊎ ((status ≡ 2) ⊎ (status ≡ 3)) → status ≡ 1 → ⊥
never_one status (inl is) one = omega (arith, is, one)
never_one status (inr (inl is)) one = omega (arith, is, one)
never_one status (inr (inr is)) one = omega (arith, is, one)

pub help_answers : {F : Type 0} (name_of made : F → Option (List ℕ)) (failed : F → Bool) (held : Holding) (words : List Text) (status : ℕ)
    (before after : Option (List ℕ)) (e : Error) → EndsByKind (kind_of e) status → (AreTaken words → kind_of e ≡ kind.OutOfMemory)
    → ((kind_of e ≡ DisplayHelp) ⊎ (kind_of e ≡ DisplayVersion) → IsHelpAsked words)
    → AnswersAndMakes name_of made failed held words status before after
help_answers name_of made failed held words status before after e ends refused asked = record {
  answers = record {
    answered = λ zero. inl (asked (ends.help zero));
    denied = λ one. absurd (never_one status ends.known one);
    taken = λ taken zero. absurd (never_zero taken zero);
  };
  makes = record {
    yes = λ taken zero. absurd (never_zero taken zero);
    no = λ taken one. absurd (never_one status ends.known one);
  };
}
  where
    never_zero : AreTaken words → status ≡ 0 → ⊥
    never_zero taken zero = let three = ends.memory (refused taken) in omega (arith, zero, three)

-- ---- of words that are not known

pub output_of_some : {R W : Type 0} (failed : R → Bool) (words : List Text) (status : ℕ) (is_failed : Bool) (before after : W)
    (written written_after : Option (List ℕ)) → KeepsOutput (CutsWords failed None words written written_after) (ListsWords None words written written_after)
    status is_failed before after → KeepsOutput (CutsSomeWords failed written written_after) (ListsSomeWords written written_after) status is_failed before
    after
output_of_some failed words status is_failed before after written written_after keeps =
    record { shown = keeps.shown; refused = λ two. refused (keeps.refused two); whole = λ three sound. whole (keeps.whole three sound) }
  where
    refused : (after ≡ before) ⊎ ((is_failed ≡ false) × ListsWords None words written written_after) → (after ≡ before)
        ⊎ ((is_failed ≡ false) × ListsSomeWords written written_after)
    refused (inl same) = inl same
    refused (inr lists) = inr (lists.0, (words, lists.1))

    whole : (after ≡ before) ⊎ CutsWords failed None words written written_after → (after ≡ before) ⊎ CutsSomeWords failed written written_after
    whole (inl same) = inl same
    whole (inr cut) = inr (words, cut)

pub errors_of_some : {R E : Type 0} (failed : R → Bool) (words : List Text) (status : ℕ) (is_failed : Bool) (before after : E)
    (written written_after out_written out_after : Option (List ℕ))
    → KeepsErrors (ShowsWords failed None words) (ListsWords None words out_written out_after) status is_failed before after written written_after
    → KeepsErrors (ShowsSomeWords failed) (ListsSomeWords out_written out_after) status is_failed before after written written_after
errors_of_some failed words status is_failed before after written written_after out_written out_after keeps = record {
  quiet = λ low. quiet (keeps.quiet low);
  refused = λ two whole. refused (keeps.refused two whole);
  reported = λ three whole. reported (keeps.reported three whole);
}
  where
    quiet : (after ≡ before) ⊎ ShowsWords failed None words true is_failed written written_after → (after ≡ before)
        ⊎ ShowsSomeWords failed true is_failed written written_after
    quiet (inl same) = inl same
    quiet (inr shows) = inr (words, shows)

    shown : (mid : Option (List ℕ)) → (mid ≡ written) ⊎ ShowsWords failed None words false false written mid → (mid ≡ written)
        ⊎ ShowsSomeWords failed false false written mid
    shown mid (inl same) = inl same
    shown mid (inr shows) = inr (words, shows)

    refused : Behind (ShowsWords failed None words false false) AddsSome written written_after ⊎ ListsWords None words out_written out_after
        → Behind (ShowsSomeWords failed false false) AddsSome written written_after ⊎ ListsSomeWords out_written out_after
    refused (inl some) = inl (record { mid = some.mid; shown = shown some.mid some.shown; rest = some.rest })
    refused (inr lists) = inr (words, lists)

    reported : Behind (ShowsWords failed None words false false) (ReportsLine 3) written written_after ⊎ ReportsFiles written written_after
        → Behind (ShowsSomeWords failed false false) (ReportsLine 3) written written_after ⊎ ReportsFiles written written_after
    reported (inl line) = inl (record { mid = line.mid; shown = shown line.mid line.shown; rest = line.rest })
    reported (inr files) = inr files
