-- What is written of many files.
use Rattle.std.proofs.Common.{◌≡◌, ◌≢◌, ◌⊎◌, ◌∙◌, ℕ, List, [], ◌∷◌, ◌++◌, Bool, None, Option, Some, Ok, Err, Result, IfErr, IfOk, OnOk, ap, false, inl, inr}
use Rattle.std.proofs.Common.{true, map, refl, subst, sym}
use Rattle.std.specs.Prelude.{All, is_ok, option_map, ◌&&◌, ◌||◌}
use Rattle.std.specs.Borrow.{Bor}
use Rattle.std.proofs.lemmas.Bool.{false≢true}
use Rattle.std.proofs.lemmas.List.{append-nil}
use Rattle.std.proofs.lemmas.List.Elements.{All-cons, All-head, All-nil, All-tail}
use Rattle.sig_bits.specs.Device.{Adds}
use Rattle.sig_table.specs.Views.{TableView}
use Rattle.sig_engines.specs.FormatNames.{NameList}
use Rattle.sig_engines.specs.Listed.{AreListed}
use Rattle.sig_engines.specs.ManyFiles.{AddsAll, AreListedVisits, CutsAll, IsPrinted, IsPrintedBy, StopsAll, Printed, PrintedFile, is_whole, out_text}
use Rattle.sig_engines.specs.ManyFiles.{out_texts, run_text, visits_of}
use Rattle.sig_engines.specs.Stores.{GivesInput, Holding, IsTableOf, Opens, SomeFailed}
use Rattle.sig_engines.specs.Visits.{AreVisits, Visit}
use Rattle.sig_engines.specs.declared.ask.MatchAsk.{MatchAsk}
use Rattle.sig_engines.specs.declared.error.NameFault.{NameFault}
use Rattle.sig_engines.specs.declared.error.RunError.{RunError}
use Rattle.sig_engines.specs.declared.error.RunError.TheVariants.{OutOfMemory, Read, Write}
use Rattle.sig_engines.specs.declared.store.TablePaths.{TablePaths}
use Rattle.sig_command.proofs.StoreLemmas.{has_opened, lacks_unopened, opened}
use Rattle.sig_command.specs.Faults.{TellsWrite}
use Rattle.sig_command.specs.Requests.{Answers, AreNamesOf, AsksEach, CutsMany, IsBeforeRun, IsCutRequest, IsFaultOf, IsFolderFault, IsListFault, IsLoadFault}
use Rattle.sig_command.specs.Requests.{IsNamesFaultOf, IsRunFault, Joins, KeepsOrCuts, Shows, ShowsAsked, TellsMany, TellsOf, TellsRun, answer_of}
use Rattle.sig_command.specs.Several.{AddsLinesOfEach, AddsTold, AreLinesAt, AreListedIn, AreTexts, AreVisitsOf, IsAnswered, IsList, TellsOfEach}
use Rattle.sig_command.specs.declared.args.FileNames.{FileNames}
use Rattle.sig_command.specs.declared.args.FileNames.TheVariants.{Input, Words}
use Rattle.sig_command.specs.declared.args.FileNames.TheVariants as source
use Rattle.sig_command.specs.declared.args.MatchOptions.{MatchOptions}
use Rattle.sig_command.specs.declared.args.Request.TheVariants.{MatchMany}
use Rattle.sig_command.specs.declared.fault.Fault.{Fault}
use Rattle.sig_command.specs.declared.fault.Fault.TheVariants.{CannotOpen, CutShort, FaultyTable, IsFolder, Names, NoFile, NotInTable, NotText, Run, SomeFiles}
use Rattle.sig_command.specs.declared.fault.Fault.TheVariants.{SummaryOfOne, Table}

-- ---- files of which none has a fault

module _ {R : Type 0} (failed : R → Bool) (ask : MatchAsk) (table : TableView) (held : Holding) where
  -- what is printed of a file
  abbrev Is : PrintedFile → Type 0
  Is f = IsPrinted failed ask table held f.visit f.printed

  abbrev Has : PrintedFile → Type 0
  Has f = IsAnswered ask table held f.visit f.printed

  -- a file without a fault has an answer
  answered_at : (visit : Visit) (told : Option NameFault) (printed : Printed) → visit.told ≡ told → IsPrintedBy failed ask table held visit.name told printed
      → is_ok printed ≡ true → IsAnswered ask table held visit printed
  answered_at visit None (Ok answer) same is ok = (same, is)
  answered_at visit (Some fault) (Ok answer) same is ok = let bad : Ok answer ≡ Err fault = is in cc
  answered_at visit told (Err fault) same is ok = let bad : false ≡ true = ok in cc

  both_parts : (a b : Bool) → true ≡ (a && b) → (a ≡ true) × (true ≡ b)
  both_parts true b is = (refl, is)
  both_parts false b is = cc

  all_answered : (files : List PrintedFile) → All Is files → true ≡ is_whole files → All Has files
  all_answered [] each whole = All-nil Has
  all_answered (f ∷ files) each whole =
      let parts = both_parts (is_ok f.printed) (is_whole files) whole in
      All-cons Has f files (answered_at f.visit f.visit.told f.printed refl (All-head Is f files each) parts.0)
      (all_answered files (All-tail Is f files each) parts.1)

  -- what is told of files of which none has a fault
  pub tells_each : (Are : List Visit → Type 0) (before after : Option (List ℕ)) (err_failed : Bool) (err_before err_after : Option (List ℕ))
      → AddsAll ask (IsPrinted failed ask table held) Are before after err_failed err_before err_after true → err_failed ≡ false
      → TellsOfEach ask table held Are before after err_before err_after
  tells_each Are before after err_failed err_before err_after added sound = record {
    files = added.files;
    are = added.are;
    each = all_answered added.files added.each added.is;
    adds = added.adds;
    tells = added.reports sound;
  }

  lines_at : (visit : Visit) (printed : Printed) → IsAnswered ask table held visit printed → AreLinesAt ask table held visit (out_text printed)
  lines_at visit (Ok answer) is = (is.0, answer.hits, is.1)
  lines_at visit (Err fault) is = absurd is

  lines_of_all : (files : List PrintedFile) → All Has files → AreTexts (AreLinesAt ask table held) (visits_of files) (out_texts files)
  lines_of_all [] each = refl
  lines_of_all (f ∷ files) each = (
    out_text f.printed,
    out_texts files,
    refl,
    lines_at f.visit f.printed (All-head Has f files each),
    lines_of_all files (All-tail Has f files each),
  )

  -- what is written of them
  pub each_of : (Are : List Visit → Type 0) (before after : Option (List ℕ)) (err_failed : Bool) (err_before err_after : Option (List ℕ))
      → AddsAll ask (IsPrinted failed ask table held) Are before after err_failed err_before err_after true → AddsLinesOfEach ask table held Are before after
  each_of Are before after err_failed err_before err_after added = record {
    visits = visits_of added.files;
    are = added.are;
    text = out_texts added.files;
    are_lines = lines_of_all added.files (all_answered added.files added.each added.is);
    adds = added.adds;
  }

-- ---- the names have their turn

-- the names are those in the file that was opened
listed_in : (held : Holding) (list : List ℕ) (end : ℕ) (to_come : Option (List ℕ)) (names : List (List ℕ)) → Opens held list (Some to_come)
    → AreListed end to_come names → AreListedIn held list end names
listed_in None list end to_come names opens are = tt
listed_in (Some files) list end to_come names opens are =
    let o = opened files list to_come opens in
    (o.bytes, o.has, subst (λ c. AreListed end c names) o.comes are)

pub words_turn : (ask : MatchAsk) (held : Holding) (words : Bor (List (Bor (List ℕ)))) (visits : List Visit)
    → AreVisits ask.recursive held (map (λ w. w.now) words.now) visits → AreVisitsOf ask held (Words words) visits
words_turn ask held words visits are = (map (λ (w : Bor (List ℕ)). w.now) words.now, refl, are)

pub list_turn : (ask : MatchAsk) (held : Holding) (list : Bor (List ℕ)) (end : ℕ) (to_come : Option (List ℕ)) (visits : List Visit)
    → Opens held list.now (Some to_come) → AreListedVisits ask.recursive held end to_come visits → AreVisitsOf ask held (source.List list end) visits
list_turn ask held list end to_come visits opens are = (are.0, listed_in held list.now end to_come are.0 opens are.1, are.2)

pub input_turn : (ask : MatchAsk) (held : Holding) (end : ℕ) (to_come : Option (List ℕ)) (visits : List Visit) → GivesInput held to_come
    → AreListedVisits ask.recursive held end to_come visits → AreVisitsOf ask held (Input end) visits
input_turn ask None end to_come visits gives are = (are.0, tt, are.2)
input_turn ask (Some files) end to_come visits gives are = (are.0, subst (λ c. AreListed end c are.0) gives are.1, are.2)

-- the same of names that these are, too
all_as : (ask : MatchAsk) (IsOf : Visit → Printed → Type 0) (A B : List Visit → Type 0) (before after : Option (List ℕ)) (err_failed : Bool)
    (err_before err_after : Option (List ℕ)) (whole : Bool) → ((v : List Visit) → A v → B v)
    → AddsAll ask IsOf A before after err_failed err_before err_after whole → AddsAll ask IsOf B before after err_failed err_before err_after whole
all_as ask IsOf A B before after err_failed err_before err_after whole are one =
    record { files = one.files; are = are (visits_of one.files) one.are; each = one.each; is = one.is; adds = one.adds; reports = one.reports }

stops_as : (ask : MatchAsk) (IsOf : Visit → Printed → Type 0) (A B : List Visit → Type 0) (before after : Option (List ℕ)) (err_failed : Bool)
    (err_before err_after : Option (List ℕ)) → ((v : List Visit) → A v → B v) → StopsAll ask IsOf A before after err_failed err_before err_after
    → StopsAll ask IsOf B before after err_failed err_before err_after
stops_as ask IsOf A B before after err_failed err_before err_after are one =
    record {
      files = one.files;
      others = one.others;
      are_first = are (visits_of one.files ++ one.others) one.are_first;
      each = one.each;
      adds =
          one.adds;
      reports = one.reports;
    }

cuts_as : (ask : MatchAsk) (IsOf : Visit → Printed → Type 0) (A B : List Visit → Type 0) (before after : Option (List ℕ)) (err_failed : Bool)
    (err_before err_after : Option (List ℕ)) → ((v : List Visit) → A v → B v) → CutsAll ask IsOf A before after err_failed err_before err_after
    → CutsAll ask IsOf B before after err_failed err_before err_after
cuts_as ask IsOf A B before after err_failed err_before err_after are one =
    record {
      files = one.files;
      others = one.others;
      are_first = are (visits_of one.files ++ one.others) one.are_first;
      each = one.each;
      adds =
          one.adds;
      reports = one.reports;
    }

many_as : (ask : MatchAsk) (IsOf : Visit → Printed → Type 0) (A B : List Visit → Type 0) (Listed Others : Type 0) (fault : Fault)
    (before after : Option (List ℕ)) (err_failed : Bool) (err_before err_after : Option (List ℕ)) → ((v : List Visit) → A v → B v) → (Listed → Others)
    → TellsMany ask IsOf A Listed fault before after err_failed err_before err_after
    → TellsMany ask IsOf B Others fault before after err_failed err_before err_after
many_as ask IsOf A B Listed Others SomeFiles before after err_failed err_before err_after are listed tells =
    all_as ask IsOf A B before after err_failed err_before err_after false are tells
many_as ask IsOf A B Listed Others (Run Write) before after err_failed err_before err_after are listed tells =
    cuts_as ask IsOf A B before after err_failed err_before err_after are tells
many_as ask IsOf A B Listed Others (Run Read) before after err_failed err_before err_after are listed tells =
    (listed tells.0, stops_as ask IsOf A B before after err_failed err_before err_after are tells.1)
many_as ask IsOf A B Listed Others (Run OutOfMemory) before after err_failed err_before err_after are listed tells =
    (listed tells.0, stops_as ask IsOf A B before after err_failed err_before err_after are tells.1)
many_as ask IsOf A B Listed Others NotText before after err_failed err_before err_after are listed tells = tells
many_as ask IsOf A B Listed Others (CannotOpen name) before after err_failed err_before err_after are listed tells = tells
many_as ask IsOf A B Listed Others (IsFolder name) before after err_failed err_before err_after are listed tells = tells
many_as ask IsOf A B Listed Others (NoFile folder name) before after err_failed err_before err_after are listed tells = tells
many_as ask IsOf A B Listed Others (Table error) before after err_failed err_before err_after are listed tells = tells
many_as ask IsOf A B Listed Others NotInTable before after err_failed err_before err_after are listed tells = tells
many_as ask IsOf A B Listed Others SummaryOfOne before after err_failed err_before err_after are listed tells = tells
many_as ask IsOf A B Listed Others (CutShort error) before after err_failed err_before err_after are listed tells = tells
many_as ask IsOf A B Listed Others FaultyTable before after err_failed err_before err_after are listed tells = tells
many_as ask IsOf A B Listed Others (Names error) before after err_failed err_before err_after are listed tells = tells

pub answers_as : (ask : MatchAsk) (IsOf : Visit → Printed → Type 0) (A B : List Visit → Type 0) (before after : Option (List ℕ)) (err_failed : Bool)
    (err_before err_after : Option (List ℕ)) (result : Result Bool Fault) → ((v : List Visit) → A v → B v)
    → IfOk result (λ is_yes. (is_yes ≡ true) × AddsAll ask IsOf A before after err_failed err_before err_after true)
    → IfOk result (λ is_yes. (is_yes ≡ true) × AddsAll ask IsOf B before after err_failed err_before err_after true)
answers_as ask IsOf A B before after err_failed err_before err_after (Ok is_yes) are is =
    (is.0, all_as ask IsOf A B before after err_failed err_before err_after true are is.1)
answers_as ask IsOf A B before after err_failed err_before err_after (Err fault) are is = tt

pub run_as : {W E : Type 0} (ask : MatchAsk) (IsOf : Visit → Printed → Type 0) (A B : List Visit → Type 0) (Listed Others : Type 0)
    (written : W → Option (List ℕ)) (before after : W) (err_failed : E → Bool) (err_written : E → Option (List ℕ)) (err_before err_after : E)
    (result : Result Bool Fault) → ((v : List Visit) → A v → B v) → (Listed → Others)
    → IfErr result (λ fault. TellsRun ask IsOf A Listed fault written before after err_failed err_written err_before err_after)
    → IfErr result (λ fault. TellsRun ask IsOf B Others fault written before after err_failed err_written err_before err_after)
run_as ask IsOf A B Listed Others written before after err_failed err_written err_before err_after (Ok is_yes) are listed tells = tt
run_as ask IsOf A B Listed Others written before after err_failed err_written err_before err_after (Err fault) are listed (inl same) = inl same
run_as ask IsOf A B Listed Others written before after err_failed err_written err_before err_after (Err fault) are listed (inr tells) =
    inr (many_as ask IsOf A B Listed Others fault (written before) (written after) (err_failed err_after) (err_written err_before) (err_written err_after) are
    listed tells)

-- ---- what a run comes to

pub run_answers : (ask : MatchAsk) (IsOf : Visit → Printed → Type 0) (Are : List Visit → Type 0) (before after : Option (List ℕ)) (err_failed : Bool)
    (err_before err_after : Option (List ℕ)) (matched : Result Bool RunError) (result : Result Bool Fault) → result ≡ answer_of matched
    → IfOk matched (AddsAll ask IsOf Are before after err_failed err_before err_after)
    → IfOk result (λ is_yes. (is_yes ≡ true) × AddsAll ask IsOf Are before after err_failed err_before err_after true)
run_answers ask IsOf Are before after err_failed err_before err_after (Ok true) result same added = rw same (refl, added)
run_answers ask IsOf Are before after err_failed err_before err_after (Ok false) result same added = rw same tt
run_answers ask IsOf Are before after err_failed err_before err_after (Err e) result same added = rw same tt

pub run_tells : {W E : Type 0} (ask : MatchAsk) (IsOf : Visit → Printed → Type 0) (Are : List Visit → Type 0) (Listed : Type 0) (written : W → Option (List ℕ))
    (before after : W) (err_failed : E → Bool) (err_written : E → Option (List ℕ)) (err_before err_after : E) (matched : Result Bool RunError)
    (result : Result Bool Fault) → result ≡ answer_of matched → IfOk matched
    (AddsAll ask IsOf Are (written before) (written after) (err_failed err_after) (err_written err_before) (err_written err_after))
    → IfErr matched (λ e. CutsAll ask IsOf Are (written before) (written after) (err_failed err_after) (err_written err_before) (err_written err_after))
    → IfErr matched (λ e. e ≢ Write → Listed × StopsAll ask IsOf Are (written before) (written after) (err_failed err_after) (err_written err_before)
    (err_written err_after)) → IfErr result (λ fault. TellsRun ask IsOf Are Listed fault written before after err_failed err_written err_before err_after)
run_tells ask IsOf Are Listed written before after err_failed err_written err_before err_after (Ok true) result same added cuts stops = rw same tt
run_tells ask IsOf Are Listed written before after err_failed err_written err_before err_after (Ok false) result same added cuts stops = rw same (inr added)
run_tells ask IsOf Are Listed written before after err_failed err_written err_before err_after (Err Write) result same added cuts stops = rw same (inr cuts)
run_tells ask IsOf Are Listed written before after err_failed err_written err_before err_after (Err Read) result same added cuts stops =
    rw same (inr (stops (λ is. cc)))
run_tells ask IsOf Are Listed written before after err_failed err_written err_before err_after (Err OutOfMemory) result same added cuts stops =
    rw same (inr (stops (λ is. cc)))

pub run_faults : (Other : Fault → Type 0) (matched : Result Bool RunError) (result : Result Bool Fault) → result ≡ answer_of matched
    → (matched ≡ Err Read → Other (Run Read)) → IfErr result (λ fault. IsRunFault fault (Other fault))
run_faults Other (Ok true) result same read = rw same tt
run_faults Other (Ok false) result same read = rw same (inl refl)
run_faults Other (Err Write) result same read = rw same (inr (inl refl))
run_faults Other (Err Read) result same read = rw same (inr (inr (inr (read refl))))
run_faults Other (Err OutOfMemory) result same read = rw same (inr (inr (inl refl)))

pub run_write : (matched : Result Bool RunError) (result : Result Bool Fault) (Failed : Type 0) → result ≡ answer_of matched → (matched ≡ Err Write → Failed)
    → IfErr result (λ fault. TellsWrite fault → Failed)
run_write (Ok true) result Failed same write = rw same tt
run_write (Ok false) result Failed same write = rw same (λ tells. absurd (no_write tells))
  where
    no_write : TellsWrite SomeFiles → ⊥
    no_write (inl is) = cc
    no_write (inr is) = cc
run_write (Err Write) result Failed same write = rw same (λ tells. write refl)
run_write (Err Read) result Failed same write = rw same (λ tells. absurd (no_write tells))
  where
    no_write : TellsWrite (Run Read) → ⊥
    no_write (inl is) = cc
    no_write (inr is) = cc
run_write (Err OutOfMemory) result Failed same write = rw same (λ tells. absurd (no_write tells))
  where
    no_write : TellsWrite (Run OutOfMemory) → ⊥
    no_write (inl is) = cc
    no_write (inr is) = cc

pub run_quiet : (matched : Result Bool RunError) (result : Result Bool Fault) (Quiet : Type 0) → result ≡ answer_of matched → (matched ≡ Ok true → Quiet)
    → OnOk result Quiet
run_quiet (Ok true) result Quiet same quiet = rw same (quiet refl)
run_quiet (Ok false) result Quiet same quiet = rw same tt
run_quiet (Err e) result Quiet same quiet = rw same tt

pub run_shown : (matched : Result Bool RunError) (result : Result Bool Fault) (P : Type 0) → result ≡ answer_of matched → OnOk matched P → OnOk result P
run_shown (Ok true) result P same shown = rw same shown
run_shown (Ok false) result P same shown = rw same tt
run_shown (Err e) result P same shown = rw same tt

-- a run over words ends by a failed write alone
pub only_write : (matched : Result Bool RunError) (P : Type 0) → IfErr matched (λ e. e ≡ Write) → IfErr matched (λ e. e ≢ Write → P)
only_write (Ok whole) P write = tt
only_write (Err e) P write = λ other. absurd (other write)

pub never_read : (matched : Result Bool RunError) (P : Type 0) → IfErr matched (λ e. e ≡ Write) → matched ≡ Err Read → P
never_read matched P write is = let bad : Read ≡ Write = subst (λ m. IfErr m (λ e. e ≡ Write)) is write in cc

-- where nothing is read yet
pub memory_before : IsBeforeRun (Run OutOfMemory)
memory_before = record { files = λ same. cc; write = λ same. cc; read = λ same. cc }

pub unopened_before : (name : Bor (List ℕ)) → IsBeforeRun (CannotOpen name)
unopened_before name = record { files = λ same. cc; write = λ same. cc; read = λ same. cc }

pub folder_before : (name : Bor (List ℕ)) → IsBeforeRun (IsFolder name)
folder_before name = record { files = λ same. cc; write = λ same. cc; read = λ same. cc }

-- ---- the fault of a request

-- what is asked of each file, where there are the names that are asked for
pub asks_each : (held : Holding) (options : MatchOptions) (ask : MatchAsk) (names : Option NameList) → ask.all ≡ options.all → ask.csv ≡ options.csv
    → ask.recursive ≡ options.recursive → ask.progress ≡ options.progress → ask.summary ≡ options.summary → option_map (λ n. n.now) ask.names ≡ names
    → AreNamesOf held options.names names → AsksEach held options ask
asks_each held options ask names all csv recursive progress summary is are =
    record { all = all; csv = csv; recursive = recursive; progress = progress; summary = summary; names = subst (AreNamesOf held options.names) (sym is) are }

-- a fault of the table comes before the run
pub load_before : {R : Type 0} (failed : R → Bool) (held : Holding) (paths : TablePaths) (fault : Fault) → IsLoadFault failed held paths fault
    → IsBeforeRun fault
load_before failed held paths NotText is = absurd is
load_before failed held paths (CannotOpen name) is = unopened_before name
load_before failed held paths (IsFolder name) is = absurd is
load_before failed held paths (NoFile folder name) is = absurd is
load_before failed held paths (Table error) is = record { files = λ same. cc; write = λ same. cc; read = λ same. cc }
load_before failed held paths NotInTable is = absurd is
load_before failed held paths SummaryOfOne is = absurd is
load_before failed held paths (Run error) is = absurd is
load_before failed held paths (CutShort error) is = absurd is
load_before failed held paths SomeFiles is = absurd is
load_before failed held paths FaultyTable is = absurd is
load_before failed held paths (Names error) is = absurd is

-- and so does one of the names of formats
pub names_before : {R : Type 0} (failed : R → Bool) (held : Holding) (path : Option (Bor (List ℕ))) (fault : Fault) → (fault ≡ Run OutOfMemory)
    ⊎ IsNamesFaultOf failed held path fault → IsBeforeRun fault
names_before failed held path fault (inl is) = rw is memory_before
names_before failed held None fault (inr is) = absurd is
names_before failed held (Some path) fault (inr (inl is)) = rw is.0 (unopened_before path)
names_before failed held (Some path) fault (inr (inr is)) = rw is.1 (record { files = λ same. cc; write = λ same. cc; read = λ same. cc })

-- the list can't be opened, or is a folder
pub list_before : (held : Holding) (list : Bor (List ℕ)) (fault : Fault) → ((fault ≡ CannotOpen list) × Opens held list.now None)
    ⊎ IsFolderFault held list fault → IsBeforeRun fault
list_before held list fault (inl is) = rw is.0 (unopened_before list)
list_before held list fault (inr is) = rw is.0 (folder_before list)

pub unopened_list : {R : Type 0} (failed : R → Bool) (held : Holding) (list : Bor (List ℕ)) (end : ℕ) (fault : Fault)
    → ((fault ≡ CannotOpen list) × Opens held list.now None) ⊎ IsFolderFault held list fault
    → IsRunFault fault (IsListFault failed held (source.List list end) fault)
unopened_list failed held list end fault (inl is) = rw is.0 (inr (inr (inr (inl (refl, lacks_unopened held list.now is.1)))))
unopened_list failed held list end fault (inr is) = rw is.0 (inr (inr (inr (inr (refl, is.1)))))

-- a read of the list failed
pub unread_list : {R : Type 0} (failed : R → Bool) (held : Holding) (list : Bor (List ℕ)) (end : ℕ) (to_come : Option (List ℕ)) (result : Result Bool Fault)
    → Opens held list.now (Some to_come) → IfErr result (λ fault. IsRunFault fault ((fault ≡ Run Read) × SomeFailed failed))
    → IfErr result (λ fault. IsRunFault fault (IsListFault failed held (source.List list end) fault))
unread_list failed held list end to_come (Ok is_yes) opens is = tt
unread_list failed held list end to_come (Err fault) opens (inl is) = inl is
unread_list failed held list end to_come (Err fault) opens (inr (inl is)) = inr (inl is)
unread_list failed held list end to_come (Err fault) opens (inr (inr (inl is))) = inr (inr (inl is))
unread_list failed held list end to_come (Err fault) opens (inr (inr (inr is))) = rw is.0 (inr (inr (inr (inl (has_opened held list.now to_come opens, is.1)))))

-- ---- what comes of them, in the words of a request

-- what is told of the first of them
told_of : (ask : MatchAsk) (IsOf : Visit → Printed → Type 0) (Are : List Visit → Type 0) (Listed : Type 0) (fault : Fault) (before after : Option (List ℕ))
    (err_failed : Bool) (err_before err_after : Option (List ℕ)) → TellsMany ask IsOf Are Listed fault before after err_failed err_before err_after
    → err_failed ≡ false → AddsTold ask IsOf Are err_before err_after
told_of ask IsOf Are Listed SomeFiles before after err_failed err_before err_after tells sound = record {
  files = tells.files;
  others = [];
  are_first = subst Are (sym (append-nil (visits_of tells.files))) tells.are;
  each = tells.each;
  last = ask.summary;
  adds = tells.reports sound;
}
told_of ask IsOf Are Listed (Run Write) before after err_failed err_before err_after tells sound = record {
  files = tells.files;
  others = tells.others;
  are_first = tells.are_first;
  each = tells.each;
  last = false;
  adds = subst (λ l. Adds err_before l err_after) (sym (append-nil (run_text ask.progress tells.files))) (tells.reports sound);
}
told_of ask IsOf Are Listed (Run Read) before after err_failed err_before err_after tells sound =
    let stops = tells.1 in
    record {
      files = stops.files;
      others = stops.others;
      are_first = stops.are_first;
      each = stops.each;
      last = false;
      adds = subst (λ l. Adds err_before l err_after) (sym (append-nil (run_text ask.progress stops.files))) (stops.reports sound);
    }
told_of ask IsOf Are Listed (Run OutOfMemory) before after err_failed err_before err_after tells sound =
    let stops = tells.1 in
    record {
      files = stops.files;
      others = stops.others;
      are_first = stops.are_first;
      each = stops.each;
      last = false;
      adds = subst (λ l. Adds err_before l err_after) (sym (append-nil (run_text ask.progress stops.files))) (stops.reports sound);
    }
told_of ask IsOf Are Listed NotText before after err_failed err_before err_after tells sound = absurd tells
told_of ask IsOf Are Listed (CannotOpen name) before after err_failed err_before err_after tells sound = absurd tells
told_of ask IsOf Are Listed (IsFolder name) before after err_failed err_before err_after tells sound = absurd tells
told_of ask IsOf Are Listed (NoFile folder name) before after err_failed err_before err_after tells sound = absurd tells
told_of ask IsOf Are Listed (Table error) before after err_failed err_before err_after tells sound = absurd tells
told_of ask IsOf Are Listed NotInTable before after err_failed err_before err_after tells sound = absurd tells
told_of ask IsOf Are Listed SummaryOfOne before after err_failed err_before err_after tells sound = absurd tells
told_of ask IsOf Are Listed (CutShort error) before after err_failed err_before err_after tells sound = absurd tells
told_of ask IsOf Are Listed FaultyTable before after err_failed err_before err_after tells sound = absurd tells
told_of ask IsOf Are Listed (Names error) before after err_failed err_before err_after tells sound = absurd tells

-- what is written of them, unless a write failed
cut_of : (ask : MatchAsk) (IsOf : Visit → Printed → Type 0) (names : FileNames) (Are : List Visit → Type 0) (fault : Fault) (before after : Option (List ℕ))
    (err_failed : Bool) (err_before err_after : Option (List ℕ)) → (TellsWrite fault → ⊥)
    → TellsMany ask IsOf Are (IsList names) fault before after err_failed err_before err_after → CutsMany ask IsOf names Are before after
cut_of ask IsOf names Are SomeFiles before after err_failed err_before err_after whole tells =
    inl record { files = tells.files; are = tells.are; each = tells.each; is = sym tells.is; adds = tells.adds }
cut_of ask IsOf names Are (Run Write) before after err_failed err_before err_after whole tells = absurd (whole (inl refl))
cut_of ask IsOf names Are (Run Read) before after err_failed err_before err_after whole tells =
    let stops = tells.1 in
    inr (tells.0, record { files = stops.files; others = stops.others; are_first = stops.are_first; each = stops.each; adds = stops.adds })
cut_of ask IsOf names Are (Run OutOfMemory) before after err_failed err_before err_after whole tells =
    let stops = tells.1 in
    inr (tells.0, record { files = stops.files; others = stops.others; are_first = stops.are_first; each = stops.each; adds = stops.adds })
cut_of ask IsOf names Are NotText before after err_failed err_before err_after whole tells = absurd tells
cut_of ask IsOf names Are (CannotOpen name) before after err_failed err_before err_after whole tells = absurd tells
cut_of ask IsOf names Are (IsFolder name) before after err_failed err_before err_after whole tells = absurd tells
cut_of ask IsOf names Are (NoFile folder name) before after err_failed err_before err_after whole tells = absurd tells
cut_of ask IsOf names Are (Table error) before after err_failed err_before err_after whole tells = absurd tells
cut_of ask IsOf names Are NotInTable before after err_failed err_before err_after whole tells = absurd tells
cut_of ask IsOf names Are SummaryOfOne before after err_failed err_before err_after whole tells = absurd tells
cut_of ask IsOf names Are (CutShort error) before after err_failed err_before err_after whole tells = absurd tells
cut_of ask IsOf names Are FaultyTable before after err_failed err_before err_after whole tells = absurd tells
cut_of ask IsOf names Are (Names error) before after err_failed err_before err_after whole tells = absurd tells

-- a run ends by few faults
ends_run : (ask : MatchAsk) (IsOf : Visit → Printed → Type 0) (Are : List Visit → Type 0) (Listed : Type 0) (fault : Fault) (before after : Option (List ℕ))
    (err_failed : Bool) (err_before err_after : Option (List ℕ)) (P : Type 0) → ((e : RunError) → fault ≢ Run e) → fault ≢ SomeFiles
    → TellsMany ask IsOf Are Listed fault before after err_failed err_before err_after → P
ends_run ask IsOf Are Listed SomeFiles before after err_failed err_before err_after P run files tells = absurd (files refl)
ends_run ask IsOf Are Listed (Run error) before after err_failed err_before err_after P run files tells = absurd (run error refl)
ends_run ask IsOf Are Listed NotText before after err_failed err_before err_after P run files tells = absurd tells
ends_run ask IsOf Are Listed (CannotOpen name) before after err_failed err_before err_after P run files tells = absurd tells
ends_run ask IsOf Are Listed (IsFolder name) before after err_failed err_before err_after P run files tells = absurd tells
ends_run ask IsOf Are Listed (NoFile folder name) before after err_failed err_before err_after P run files tells = absurd tells
ends_run ask IsOf Are Listed (Table error) before after err_failed err_before err_after P run files tells = absurd tells
ends_run ask IsOf Are Listed NotInTable before after err_failed err_before err_after P run files tells = absurd tells
ends_run ask IsOf Are Listed SummaryOfOne before after err_failed err_before err_after P run files tells = absurd tells
ends_run ask IsOf Are Listed (CutShort error) before after err_failed err_before err_after P run files tells = absurd tells
ends_run ask IsOf Are Listed FaultyTable before after err_failed err_before err_after P run files tells = absurd tells
ends_run ask IsOf Are Listed (Names error) before after err_failed err_before err_after P run files tells = absurd tells

module _ {R : Type 0} (failed : R → Bool) (held : Holding) (options : MatchOptions) (ask : MatchAsk) (paths : TablePaths) (names : FileNames)
    (core table : TableView) (same : core ≡ table) (is : IsTableOf held paths table) (asked : AsksEach held options ask) where
  abbrev of_core : TableView → Visit → Printed → Type 0
  of_core t = IsPrinted failed ask t held

  abbrev turn : List Visit → Type 0
  turn = AreVisitsOf ask held names

  pub many_answered : (before after : Option (List ℕ)) (err_failed : Bool) (err_before err_after : Option (List ℕ)) (is_yes : Bool) → is_yes ≡ true
      → AddsAll ask (of_core core) turn before after err_failed err_before err_after true → Answers held (MatchMany options paths names) is_yes before after
  many_answered before after err_failed err_before err_after is_yes whole added = (
    whole,
    (
      table,
      is,
      ask,
      asked,
      each_of failed ask table held turn before after err_failed err_before err_after
          (subst (λ t. AddsAll ask (of_core t) turn before after err_failed err_before err_after true) same added),
    ),
  )

  pub many_shown : {E : Type 0} (before after : Option (List ℕ)) (is_failed : Bool) (err last : E) (err_before err_after : Option (List ℕ)) (is_yes : Bool)
      → (ask.progress ≡ false → ask.summary ≡ false → last ≡ err) → AddsAll ask (of_core core) turn before after is_failed err_before err_after true
      → ShowsAsked held (MatchMany options paths names) is_yes before after is_failed err last err_before err_after
  many_shown before after is_failed err last err_before err_after is_yes quiet added = (
    λ none. let parts = neither options.progress options.summary none in quiet (asked.progress ∙ parts.0) (asked.summary ∙ parts.1),
    (
      table,
      is,
      ask,
      asked,
      λ sound. tells_each failed ask table held turn before after is_failed err_before err_after
          (subst (λ t. AddsAll ask (of_core t) turn before after is_failed err_before err_after true) same added) sound,
    ),
  )
    where
      neither : (a b : Bool) → (a || b) ≡ false → (a ≡ false) × (b ≡ false)
      neither false false none = (refl, refl)
      neither false true none = cc
      neither true b none = cc

  -- where there is an answer
  pub many_told : {E : Type 0} (before after : Option (List ℕ)) (is_failed : Bool) (err last : E) (err_before err_after : Option (List ℕ))
      → (ask.progress ≡ false → ask.summary ≡ false → last ≡ err) → AddsAll ask (of_core core) turn before after is_failed err_before err_after true
      → (last ≡ err) ⊎ Shows failed held (MatchMany options paths names) true is_failed err_before err_after
  many_told before after is_failed err last err_before err_after quiet added = go options.progress options.summary refl refl
    where
      of_all : AddsAll ask (of_core table) turn before after is_failed err_before err_after true → is_failed ≡ false
          → AddsTold ask (of_core table) turn err_before err_after
      of_all all sound = record {
        files = all.files;
        others = [];
        are_first = subst turn (sym (append-nil (visits_of all.files))) all.are;
        each = all.each;
        last = ask.summary;
        adds = all.reports sound;
      }

      told : (options.progress || options.summary) ≡ true → Shows failed held (MatchMany options paths names) true is_failed err_before err_after
      told some =
          let all = subst (λ t. AddsAll ask (of_core t) turn before after is_failed err_before err_after true) same added in
          (inr some, (table, is, ask, asked, λ sound. of_all all sound))

      go : (a b : Bool) → options.progress ≡ a → options.summary ≡ b → (last ≡ err)
          ⊎ Shows failed held (MatchMany options paths names) true is_failed err_before err_after
      go false false progress summary = inl (quiet (asked.progress ∙ progress) (asked.summary ∙ summary))
      go false true progress summary = inr (told (rw (progress, summary) refl))
      go true b progress summary = inr (told (rw progress refl))

  -- where there is none
  pub many_ended : {W E : Type 0} (fault : Fault) (written : W → Option (List ℕ)) (before after : W) (is_failed : E → Bool) (err_written : E → Option (List ℕ))
      (err last : E) → TellsRun ask (of_core core) turn (IsList names) fault written before after is_failed err_written err last → (last ≡ err)
      ⊎ Shows failed held (MatchMany options paths names) false (is_failed last) (err_written err) (err_written last)
  many_ended fault written before after is_failed err_written err last (inl quiet) = inl quiet.2
  many_ended fault written before after is_failed err_written err last (inr tells) =
      let told = subst (λ t. TellsMany ask (of_core t) turn (IsList names) fault (written before) (written after) (is_failed last) (err_written err)
      (err_written last)) same tells in
      inr (
        inl refl,
        (
          table,
          is,
          ask,
          asked,
          told_of ask (of_core table) turn (IsList names) fault (written before) (written after) (is_failed last)
              (err_written err) (err_written last) told,
        ),
      )

  pub many_joined : {W E : Type 0} (fault : Fault) (written : W → Option (List ℕ)) (before after : W) (is_failed : E → Bool) (err_written : E → Option (List ℕ))
      (err last : E) → TellsRun ask (of_core core) turn (IsList names) fault written before after is_failed err_written err last
      → Joins failed held (MatchMany options paths names) fault (written before) (written after) (is_failed last) (err_written err) (err_written last)
  many_joined fault written before after is_failed err_written err last (inl quiet) = inl (quiet.0, ap err_written quiet.2)
  many_joined fault written before after is_failed err_written err last (inr tells) =
      inr (
        table,
        is,
        ask,
        asked,
        subst (λ t. TellsMany ask (of_core t) turn (IsList names) fault (written before) (written after) (is_failed last)
            (err_written err) (err_written last)) same tells,
      )

  pub many_untouched : {W E : Type 0} (fault : Fault) (written : W → Option (List ℕ)) (before after : W) (is_failed : E → Bool)
      (err_written : E → Option (List ℕ)) (err last : E) → TellsRun ask (of_core core) turn (IsList names) fault written before after is_failed err_written err
      last → ((e : RunError) → fault ≢ Run e) → fault ≢ SomeFiles → after ≡ before
  many_untouched fault written before after is_failed err_written err last (inl quiet) run files = quiet.1
  many_untouched fault written before after is_failed err_written err last (inr tells) run files =
      ends_run ask (of_core core) turn (IsList names) fault (written before) (written after) (is_failed last) (err_written err) (err_written last)
      (after ≡ before) run files tells

  pub many_whole : {W E : Type 0} (fault : Fault) (written : W → Option (List ℕ)) (before after : W) (is_failed : E → Bool) (err_written : E → Option (List ℕ))
      (err last : E) → (TellsWrite fault → ⊥) → TellsRun ask (of_core core) turn (IsList names) fault written before after is_failed err_written err last
      → (after ≡ before) ⊎ IsCutRequest failed held (MatchMany options paths names) (written before) (written after)
  many_whole fault written before after is_failed err_written err last whole (inl quiet) = inl quiet.1
  many_whole fault written before after is_failed err_written err last whole (inr tells) =
      let told = subst (λ t. TellsMany ask (of_core t) turn (IsList names) fault (written before) (written after) (is_failed last) (err_written err)
      (err_written last)) same tells in
      inr (
        table,
        is,
        ask,
        asked,
        cut_of ask (of_core table) names turn fault (written before) (written after) (is_failed last) (err_written err)
            (err_written last) whole told,
      )

  pub many_fault : (fault : Fault) → IsRunFault fault (IsListFault failed held names fault) → IsFaultOf failed held (MatchMany options paths names) fault
  many_fault fault (inl files) = inr (inr (inl ((table, is), inl files)))
  many_fault fault (inr (inl write)) = inr (inr (inl ((table, is), inr (inl write))))
  many_fault fault (inr (inr (inl memory))) = inr (inl memory)
  many_fault fault (inr (inr (inr list))) = inr (inr (inl ((table, is), inr (inr (inl list)))))

  -- whatever comes of them
  pub if_answered : (before after : Option (List ℕ)) (err_failed : Bool) (err_before err_after : Option (List ℕ)) (result : Result Bool Fault)
      → IfOk result (λ is_yes. (is_yes ≡ true) × AddsAll ask (of_core core) turn before after err_failed err_before err_after true)
      → IfOk result (λ is_yes. Answers held (MatchMany options paths names) is_yes before after)
  if_answered before after err_failed err_before err_after (Ok is_yes) added = many_answered before after err_failed err_before err_after is_yes added.0 added.1
  if_answered before after err_failed err_before err_after (Err fault) added = tt

  pub if_shown : {E : Type 0} (before after : Option (List ℕ)) (is_failed : Bool) (err last : E) (err_before err_after : Option (List ℕ))
      (result : Result Bool Fault) → OnOk result (ask.progress ≡ false → ask.summary ≡ false → last ≡ err)
      → IfOk result (λ is_yes. (is_yes ≡ true) × AddsAll ask (of_core core) turn before after is_failed err_before err_after true)
      → IfOk result (λ is_yes. ShowsAsked held (MatchMany options paths names) is_yes before after is_failed err last err_before err_after)
  if_shown before after is_failed err last err_before err_after (Ok is_yes) quiet added =
      many_shown before after is_failed err last err_before err_after is_yes quiet added.1
  if_shown before after is_failed err last err_before err_after (Err fault) quiet added = tt

  pub if_told : {W E : Type 0} (written : W → Option (List ℕ)) (before after : W) (is_failed : E → Bool) (err_written : E → Option (List ℕ)) (err last : E)
      (result : Result Bool Fault) → OnOk result (ask.progress ≡ false → ask.summary ≡ false → last ≡ err)
      → IfOk result (λ is_yes. (is_yes ≡ true) × AddsAll ask (of_core core) turn (written before) (written after) (is_failed last) (err_written err)
      (err_written last) true) → IfErr result (λ fault. TellsRun ask (of_core core) turn (IsList names) fault written before after is_failed err_written err
      last) → TellsOf failed held (MatchMany options paths names) (is_ok result) is_failed err_written err last
  if_told written before after is_failed err_written err last (Ok is_yes) quiet added tells =
      many_told (written before) (written after) (is_failed last) err last (err_written err) (err_written last) quiet added.1
  if_told written before after is_failed err_written err last (Err fault) quiet added tells =
      many_ended fault written before after is_failed err_written err last tells

  pub if_whole : {W E : Type 0} (out_failed : W → Bool) (written : W → Option (List ℕ)) (before after : W) (is_failed : E → Bool)
      (err_written : E → Option (List ℕ)) (err last : E) (result : Result Bool Fault) → IfErr result (λ fault. TellsWrite fault → out_failed after ≡ true)
      → IfErr result (λ fault. TellsRun ask (of_core core) turn (IsList names) fault written before after is_failed err_written err last)
      → IfErr result (λ fault. KeepsOrCuts failed held (MatchMany options paths names) out_failed written before after)
  if_whole out_failed written before after is_failed err_written err last (Ok is_yes) write tells = tt
  if_whole out_failed written before after is_failed err_written err last (Err fault) write tells = λ sound.
      many_whole fault written before after is_failed err_written err last (λ told. false≢true (sym sound ∙ write told)) tells

-- a fault of the names of formats
pub names_fault : {R : Type 0} (failed : R → Bool) (held : Holding) (options : MatchOptions) (paths : TablePaths) (names : FileNames) (table : TableView)
    (fault : Fault) → IsTableOf held paths table → (fault ≡ Run OutOfMemory) ⊎ IsNamesFaultOf failed held options.names fault
    → IsFaultOf failed held (MatchMany options paths names) fault
names_fault failed held options paths names table fault is (inl memory) = inr (inl memory)
names_fault failed held options paths names table fault is (inr formats) = inr (inr (inl ((table, is), inr (inr (inr formats)))))
