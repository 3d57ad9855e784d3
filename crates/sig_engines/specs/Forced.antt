-- The forced pairs, tried one after another: which of them stand in the priority file that is made, and what is said of the others.
use Rattle.std.specs.Borrow.{Bor}
use Rattle.std.specs.Prelude.{◌≡◌, ℕ, ⊤, List, [], ◌∷◌, ◌++◌, codes, flat_map, map, Option, None, Some, Ok}
use Rattle.sig_find.specs.Additions.{IsAddition}
use Rattle.sig_find.specs.Leaving.{IsSometimesLeft}
use Rattle.sig_find.specs.declared.addition.Addition.{Addition}
use Rattle.sig_find.specs.declared.addition.Addition.TheVariants as addition
use Rattle.sig_table.specs.Canonical.{priority_csv}
use Rattle.sig_table.specs.Judging.{Records}
use Rattle.sig_table.specs.Loading.{records_of, table_of}
use Rattle.sig_table.specs.Ranked.{ranked}
use Rattle.sig_table.specs.Tables.{IsTable}
use Rattle.sig_table.specs.Views.{TableView}
use Rattle.sig_engines.specs.Notes.{forced_pairs}
use Rattle.sig_engines.specs.Texts.{format_text}
use Rattle.sig_engines.specs.declared.note.Note.{Note}

-- a pair, the higher format first, and what it does behind those before it
pub record Trial : Type 0 where
  pub pair : ℕ × ℕ
  pub does : Addition

-- it is added where it is safe
abbrev pub pair_if : ℕ × ℕ → Addition → List (ℕ × ℕ)
pair_if pair addition.Safe = pair ∷ []
pair_if pair addition.Cycle = []
pair_if pair addition.Dead = []
pair_if pair addition.Unknown = []

-- all pairs that are added
abbrev pub added : List Trial → List (ℕ × ℕ)
added trials = flat_map (λ t. pair_if t.pair t.does) trials

-- each does what is said of it behind these pairs and those that were added before it
abbrev pub AreTried : TableView → ℕ → List (ℕ × ℕ) → List Trial → Type 0
AreTried table budget pairs [] = ⊤
AreTried table budget pairs (t ∷ trials) = IsAddition table pairs t.pair budget t.does × AreTried table budget (pairs ++ pair_if t.pair t.does) trials

-- ---- the lines of the others

-- `not written HIGHER LOWER: cycle`, `.. : LOWER would be dead` or `.. : unknown`
abbrev pub refusal : List ℕ → List ℕ → Addition → List ℕ
refusal higher lower addition.Safe = []
refusal higher lower addition.Cycle = codes "not written " ++ higher ++ 32 ∷ lower ++ codes ": cycle" ++ 10 ∷ []
refusal higher lower addition.Dead = codes "not written " ++ higher ++ 32 ∷ lower ++ codes ": " ++ lower ++ codes " would be dead" ++ 10 ∷ []
refusal higher lower addition.Unknown = codes "not written " ++ higher ++ 32 ∷ lower ++ codes ": unknown" ++ 10 ∷ []

abbrev pub trial_line : TableView → Trial → List ℕ
trial_line table t = refusal (format_text table t.pair.0) (format_text table t.pair.1) t.does

abbrev pub refused_lines : TableView → List Trial → List ℕ
refused_lines table trials = flat_map (trial_line table) trials

-- ---- the priority file

-- the priorities of the table, and behind them the pairs that are added
abbrev pub priorities_with : TableView → List Trial → List (ℕ × ℕ)
priorities_with table trials = table.priorities ++ added trials

-- the table with these priorities: beside the signature file that gave the table they are read as they are written, and each format that some file left is left by some file still
pub record KeepsFormats (table : TableView) (pairs : List (ℕ × ℕ)) : Type 0 where
  pub is_table : IsTable (ranked table pairs)
  pub loads : (signatures priorities : Records) → table_of signatures priorities ≡ Ok table → table_of signatures (records_of (priority_csv (ranked table pairs))) ≡ Ok (ranked table pairs)
  pub alive : (format : ℕ) → IsSometimesLeft table format → IsSometimesLeft (ranked table pairs) format

-- the forced pairs of these notes are tried in their order, a file of this name is made of the priorities with those that are added, and each other one has its line; `Made` says that a file of a name was made with some bytes
pub record WritesForced (Made : List ℕ → List ℕ → Type 0) (table : TableView) (budget : ℕ) (notes : List Note) (name refused : List ℕ) : Type 0 where
  pub trials : List Trial
  pub all : map (λ t. t.pair) trials ≡ forced_pairs notes
  pub tried : AreTried table budget table.priorities trials
  pub made : Made name (priority_csv (ranked table (priorities_with table trials)))
  pub lines : refused ≡ refused_lines table trials
  pub keeps : KeepsFormats table (priorities_with table trials)

-- where there is a name for it
abbrev pub Forces : (List ℕ → List ℕ → Type 0) → TableView → ℕ → Option (Bor (List ℕ)) → List Note → List ℕ → Type 0
Forces Made table budget None notes refused = refused ≡ []
Forces Made table budget (Some name) notes refused = WritesForced Made table budget notes name.now refused
