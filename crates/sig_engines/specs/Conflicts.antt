-- What is printed of the pairs of formats of a table.
use Rattle.std.specs.Prelude.{◌≡◌, ℕ, ⊤, ◌+◌, ◌-◌, ◌^◌, ◌<◌, ◌⊎◌, ◌&&◌, Bool, true, false, cond, List, [], ◌∷◌, ◌++◌, All, codes, count_by, flat_map, if◌then◌else◌, length, map, IfSome, Option, Some, None, is_some}
use Rattle.std.specs.Fmt.{decimal}
use Rattle.sig_bits.specs.Device.{Adds, AddsFront}
use Rattle.sig_cert.specs.Pairs.{AreRelated}
use Rattle.sig_find.specs.Classes.{IsClass}
use Rattle.sig_find.specs.FormatPairs.{IsPairDecision, NamesSignatures}
use Rattle.sig_find.specs.declared.class.PairClass.{PairClass}
use Rattle.sig_find.specs.declared.class.PairClass.TheVariants as kind
use Rattle.sig_find.specs.declared.pair.PairDecision.{PairDecision}
use Rattle.sig_find.specs.declared.pair.PairDecision.TheVariants.{Ambiguous, Decided, Tried, Unknown}
use Rattle.sig_table.specs.Views.{TableView}
use Rattle.sig_engines.specs.Asks.{asked_pairs, needs_class, shows_class}
use Rattle.sig_engines.specs.ClassTexts.{class_text, classes_if_asked, is_class}
use Rattle.sig_engines.specs.Forced.{Forces}
use Rattle.sig_engines.specs.Notes.{noted, summary_if_asked}
use Rattle.sig_engines.specs.declared.ask.ConflictsAsk.{ConflictsAsk}
use Rattle.sig_engines.specs.declared.counts.Counts.{Counts}
use Rattle.sig_engines.specs.declared.error.CutShort.TheVariants.{OutOfMemory, Write}
use Rattle.sig_engines.specs.declared.error.PairsFault.{PairsFault}
use Rattle.sig_engines.specs.declared.error.PairsFault.TheVariants.{CannotOpen, Cut, NoFile}
use Rattle.sig_engines.specs.declared.note.Note.{Note}
use Rattle.sig_engines.specs.declared.progress.Things.TheVariants.{Pairs}
use Rattle.sig_engines.specs.declared.witness_name.WitnessName.{WitnessName}
use Rattle.sig_engines.specs.Progress.{AddsIf}
use Rattle.sig_engines.specs.Stores.{CannotMake, Holding, SomeMadeFailed}
use Rattle.sig_engines.specs.Tellings.{Tells}
use Rattle.sig_engines.specs.Texts.{hex_text, product_text}
use Rattle.sig_engines.specs.Witnesses.{IsWitnessOf, KeepsWitness, path_text}

-- ---- the pairs

-- two formats, and what is known of them: nothing where one outranks the other
pub record KnownPair : Type 0 where
  pub formats : ℕ × ℕ
  pub decision : Option PairDecision
  pub class : Option PairClass

-- one outranks the other; or this is what their products give within the budget
abbrev pub IsDecisionOf : TableView → ℕ → ℕ × ℕ → Option PairDecision → Type 0
IsDecisionOf table budget formats None = AreRelated table formats
IsDecisionOf table budget formats (Some decision) = (¬ AreRelated table formats) × IsPairDecision table budget formats decision × NamesSignatures table formats decision

-- whether a file is known that leaves both
abbrev pub is_ambiguous : Option PairDecision → Bool
is_ambiguous None = false
is_ambiguous (Some Decided) = false
is_ambiguous (Some (Ambiguous s t file)) = true
is_ambiguous (Some (Tried s t file)) = true
is_ambiguous (Some (Unknown s t)) = false

-- where classes are needed, an ambiguous pair has its class, and no other pair has one
pub record IsClassOf (ask : ConflictsAsk) (table : TableView) (formats : ℕ × ℕ) (decision : Option PairDecision) (class : Option PairClass) : Type 0 where
  pub there : is_some class ≡ (needs_class ask && is_ambiguous decision)
  pub is : IfSome class (IsClass table ask.budget formats)

-- what is known of the pair is so, and tells what it says
pub record IsSettled (ask : ConflictsAsk) (table : TableView) (known : KnownPair) : Type 0 where
  pub decides : IsDecisionOf table ask.budget known.formats known.decision
  pub tells : Tells table known.formats known.decision
  pub classed : IsClassOf ask table known.formats known.decision known.class

-- the pairs that are known, in their order
abbrev pub pairs_of : List KnownPair → List (ℕ × ℕ)
pairs_of known = map (λ k. k.formats) known

-- these are the first of the pairs that are asked for, all but the others
pub record AreFirst (ask : ConflictsAsk) (table : TableView) (known : List KnownPair) (others : List (ℕ × ℕ)) : Type 0 where
  pub at : asked_pairs ask.only (length table.formats) ≡ pairs_of known ++ others
  pub settled : All (IsSettled ask table) known

-- ---- their lines

-- what a line says of a file: its length, a word, the class of its pair, and its bytes if they are asked for
abbrev pub file_text : List ℕ → Option PairClass → Bool → List ℕ → List ℕ
file_text word class hex file = 32 ∷ decimal (length file) ++ word ++ class_text class ++ hex_text hex file ++ 10 ∷ []

-- the line of a pair: `ambiguous A B S T N`, with `tried` behind N if N is no shortest length, or `unknown A B S T`; nothing of one that is decided
abbrev pub decision_line : Bool → TableView → ℕ × ℕ → PairDecision → Option PairClass → List ℕ
decision_line hex table formats Decided class = []
decision_line hex table formats (Ambiguous s t file) class = codes "ambiguous" ++ product_text table formats s.0 t.0 ++ file_text [] class hex file.items
decision_line hex table formats (Tried s t file) class = codes "ambiguous" ++ product_text table formats s.0 t.0 ++ file_text (codes " tried") class hex file.items
decision_line hex table formats (Unknown s t) class = codes "unknown" ++ product_text table formats s.0 t.0 ++ 10 ∷ []

-- the class where it is printed
abbrev pub shown_class : Bool → Option PairClass → Option PairClass
shown_class true class = class
shown_class false class = None

-- the line of a pair as it is asked for: none where there is a line for each format instead
abbrev pub asked_line : ConflictsAsk → TableView → ℕ × ℕ → PairDecision → Option PairClass → List ℕ
asked_line ask table formats decision class = if ask.summary then [] else decision_line ask.hex table formats decision (shown_class ask.class class)

-- nor is there one of a pair of which one outranks the other
abbrev pub pair_line : ConflictsAsk → TableView → ℕ × ℕ → Option PairDecision → Option PairClass → List ℕ
pair_line ask table formats None class = []
pair_line ask table formats (Some decision) class = asked_line ask table formats decision class

-- the lines of pairs, in their order
abbrev pub pair_lines : ConflictsAsk → TableView → List KnownPair → List ℕ
pair_lines ask table known = flat_map (λ k. pair_line ask table k.formats k.decision k.class) known

-- what is noted of them
abbrev pub notes_of : List KnownPair → List Note
notes_of known = flat_map (λ k. noted k.formats k.decision k.class) known

-- ---- the last line

-- whether neither outranks the other
abbrev pub is_unrelated : Option PairDecision → Bool
is_unrelated None = false
is_unrelated (Some decision) = true

-- whether no file leaves both, as far as that is known
abbrev pub is_decided : Option PairDecision → Bool
is_decided None = false
is_decided (Some Decided) = true
is_decided (Some (Ambiguous s t file)) = false
is_decided (Some (Tried s t file)) = false
is_decided (Some (Unknown s t)) = false

abbrev pub is_unknown : Option PairDecision → Bool
is_unknown None = false
is_unknown (Some Decided) = false
is_unknown (Some (Ambiguous s t file)) = false
is_unknown (Some (Tried s t file)) = false
is_unknown (Some (Unknown s t)) = true

-- how many pairs are so
abbrev pub count_of : (Option PairDecision → Bool) → List KnownPair → ℕ
count_of test known = count_by (λ k. test k.decision) known

-- how many pairs are of this class
abbrev pub class_count : List KnownPair → PairClass → ℕ
class_count known class = count_by (λ k. is_class class k.class) known

-- `pairs P decided D ambiguous M unknown U`
abbrev pub four_counts : ℕ → ℕ → ℕ → ℕ → List ℕ
four_counts pairs decided ambiguous unknown = codes "pairs " ++ decimal pairs ++ codes " decided " ++ decimal decided ++ codes " ambiguous " ++ decimal ambiguous ++ codes " unknown " ++ decimal unknown

-- of these pairs, and behind it their classes if they are asked for
abbrev pub last_line : ConflictsAsk → List KnownPair → List ℕ
last_line ask known =
    four_counts (count_of is_unrelated known) (count_of is_decided known) (count_of is_ambiguous known) (count_of is_unknown known)
    ++ classes_if_asked (shows_class ask) (class_count known) ++ 10 ∷ []

-- before it the lines of formats, where they are asked for
abbrev pub last_lines : ConflictsAsk → TableView → List KnownPair → List ℕ
last_lines ask table known = summary_if_asked ask.summary table (notes_of known) ++ last_line ask known

-- these are the counts of the pairs
pub record AreCounts (known : List KnownPair) (counts : Counts) : Type 0 where
  pub decided : counts.decided ≡ count_of is_decided known
  pub ambiguous : counts.ambiguous ≡ count_of is_ambiguous known
  pub unknown : counts.unknown ≡ count_of is_unknown known
  pub over : counts.over ≡ class_count known kind.Over
  pub under : counts.under ≡ class_count known kind.Under
  pub same : counts.same ≡ class_count known kind.Same
  pub apart : counts.apart ≡ class_count known kind.Apart
  pub opens : counts.open ≡ class_count known kind.Open

-- all of them, and all that have a class
abbrev pub pairs_in : Counts → ℕ
pairs_in counts = counts.decided + counts.ambiguous + counts.unknown

abbrev pub classes_in : Counts → ℕ
classes_in counts = counts.over + counts.under + counts.same + counts.apart + counts.open

-- one more can be counted
pub record HasRoom (counts : Counts) : Type 0 where
  pub pairs : pairs_in counts < 2 ^ 32 - 1
  pub classes : classes_in counts < 2 ^ 32 - 1

-- those of a class
abbrev pub counted_class : Counts → PairClass → ℕ
counted_class counts kind.Over = counts.over
counted_class counts kind.Under = counts.under
counted_class counts kind.Same = counts.same
counted_class counts kind.Apart = counts.apart
counted_class counts kind.Open = counts.open

-- their line
abbrev pub counts_line : Bool → Counts → List ℕ
counts_line classes counts =
    four_counts (pairs_in counts) counts.decided counts.ambiguous counts.unknown ++ classes_if_asked classes (counted_class counts) ++ 10 ∷ []

-- the counts, and a pair more
pub record IsCounted (old new : Counts) (decision : Option PairDecision) (class : Option PairClass) : Type 0 where
  pub decided : new.decided ≡ old.decided + cond (is_decided decision) 1 0
  pub ambiguous : new.ambiguous ≡ old.ambiguous + cond (is_ambiguous decision) 1 0
  pub unknown : new.unknown ≡ old.unknown + cond (is_unknown decision) 1 0
  pub over : new.over ≡ old.over + cond (is_class kind.Over class) 1 0
  pub under : new.under ≡ old.under + cond (is_class kind.Under class) 1 0
  pub same : new.same ≡ old.same + cond (is_class kind.Same class) 1 0
  pub apart : new.apart ≡ old.apart + cond (is_class kind.Apart class) 1 0
  pub opens : new.open ≡ old.open + cond (is_class kind.Open class) 1 0

-- ---- what is written

-- the lines of all pairs that are asked for and the last lines; it is a yes where none of them is ambiguous or unknown; the files that are asked for are made, and `refused` tells which forced pairs are not in the priority file. `Made` says that a file of a name was made with some bytes
pub record AddsConflicts (Made : List ℕ → List ℕ → Type 0) (is_yes : Bool) (refused : List ℕ) (ask : ConflictsAsk) (table : TableView) (before after : Option (List ℕ)) : Type 0 where
  pub known : List KnownPair
  pub are_all : AreFirst ask table known []
  pub yes : is_yes ≡ true → (count_of is_ambiguous known ≡ 0) × (count_of is_unknown known ≡ 0)
  pub no : is_yes ≡ false → 0 < count_of is_ambiguous known + count_of is_unknown known
  pub adds : Adds before (pair_lines ask table known ++ last_lines ask table known) after
  pub files : All (λ k. KeepsWitness Made table ask.files k.formats k.decision) known
  pub forces : Forces Made table ask.budget ask.priorities (notes_of known) refused

-- the error output grows by the progress, where it is asked for, and by lines behind it
pub record TellsRefused (progress : Bool) (refused : List ℕ) (before after : Option (List ℕ)) : Type 0 where
  pub mid : Option (List ℕ)
  pub shows : AddsIf progress Pairs before mid
  pub tells : Adds mid refused after

-- and the error output tells the progress, where it is asked for, and behind it the forced pairs that are not written, unless a write to it failed
pub record Settles (Made : List ℕ → List ℕ → Type 0) (progress is_yes : Bool) (ask : ConflictsAsk) (table : TableView) (before after : Option (List ℕ)) (err_failed : Bool) (err_before err_after : Option (List ℕ)) : Type 0 where
  pub refused : List ℕ
  pub adds : AddsConflicts Made is_yes refused ask table before after
  pub tells : err_failed ≡ false → TellsRefused progress refused err_before err_after

-- the lines of the first pairs, and not the last line
pub record AddsFirstPairs (ask : ConflictsAsk) (table : TableView) (before after : Option (List ℕ)) : Type 0 where
  pub known : List KnownPair
  pub others : List (ℕ × ℕ)
  pub are_first : AreFirst ask table known others
  pub adds : Adds before (pair_lines ask table known) after

-- a front of the bytes of these lines, or of those of all pairs and the last lines
pub record AddsFrontOfPairs (ask : ConflictsAsk) (table : TableView) (before after : Option (List ℕ)) : Type 0 where
  pub known : List KnownPair
  pub others : List (ℕ × ℕ)
  pub are_first : AreFirst ask table known others
  pub text : List ℕ
  pub is_text : (text ≡ pair_lines ask table known) ⊎ ((others ≡ []) × (text ≡ pair_lines ask table known ++ last_lines ask table known))
  pub adds : AddsFront before text after

-- the lines of the pairs before the one whose file has this name
pub record StopsBefore (ask : ConflictsAsk) (table : TableView) (name : WitnessName) (before after : Option (List ℕ)) : Type 0 where
  pub known : List KnownPair
  pub formats : ℕ × ℕ
  pub others : List (ℕ × ℕ)
  pub is_named : IsWitnessOf table formats name
  pub are_first : AreFirst ask table known (formats ∷ others)
  pub adds : Adds before (pair_lines ask table known) after

-- a folder or a file that is asked for can't be made: then no line is written, or those before the file's pair; where memory ran out, or a write to a file failed, the lines of the first pairs are written; and where a write of lines failed a front of such bytes. `failed` tells it of a file, `is_failed` of the output
abbrev pub StopsPairs : {F : Type 0} → (F → Bool) → PairsFault → ConflictsAsk → TableView → Bool → Option (List ℕ) → Option (List ℕ) → Type 0
StopsPairs failed (CannotOpen name) ask table is_failed before after = (ask.files ≡ Some name) ⊎ (ask.priorities ≡ Some name)
StopsPairs failed (NoFile folder name) ask table is_failed before after = (ask.files ≡ Some folder) × StopsBefore ask table name before after
StopsPairs failed (Cut Write) ask table is_failed before after = ((is_failed ≡ true) × AddsFrontOfPairs ask table before after) ⊎ (SomeMadeFailed failed × AddsFirstPairs ask table before after)
StopsPairs failed (Cut OutOfMemory) ask table is_failed before after = AddsFirstPairs ask table before after

-- the folder or the file that is told not to be made may not be
abbrev pub IsUnmade : Holding → PairsFault → Type 0
IsUnmade held (CannotOpen name) = CannotMake held name.now
IsUnmade held (NoFile folder name) = CannotMake held (path_text folder.now name)
IsUnmade held (Cut cut) = ⊤

-- nothing was searched
abbrev pub IsBeforeSearch : PairsFault → Type 0
IsBeforeSearch (CannotOpen name) = ⊤
IsBeforeSearch (NoFile folder name) = ⊥
IsBeforeSearch (Cut cut) = ⊥

-- why `conflicts` gives no answer: what is written then, that what can't be made may not be made, and that nothing is written before the search
pub record StopsConflicts {F : Type 0} (failed : F → Bool) (held : Holding) (ask : ConflictsAsk) (table : TableView) (is_failed : Bool) (before after : Option (List ℕ)) (Stays : Type 0) (fault : PairsFault) : Type 0 where
  pub stops : StopsPairs failed fault ask table is_failed before after
  pub unmade : IsUnmade held fault
  pub untouched : IsBeforeSearch fault → Stays
