-- The pairs that the rows of a priority file give, said of all rows at once.
use Rattle.std.specs.Prelude.{◌≡◌, ◌⊎◌, ℕ, ◌+◌, true, List, [], ◌∷◌, ◌++◌, length, Contains, Ok, Err}
use Rattle.sig_table.specs.declared.error.TableError.{TableError}
use Rattle.sig_table.specs.declared.error.TableError.TheVariants as error
use Rattle.sig_table.specs.declared.error.TableFile.TheVariants.{Priorities}
use Rattle.sig_table.specs.declared.puid.Puid.{Puid}
use Rattle.sig_table.specs.Judging.{FirstOf, Records, WriteAll}
use Rattle.sig_table.specs.Loading.{is_priority_header, pair_of}
use Rattle.sig_table.specs.Ranking.{IsAbove}
use Rattle.sig_table.specs.Tables.{ArePriorities}

-- the record of this number writes the pair
abbrev pub WritesPair : List Puid → ℕ → List (List ℕ) → ℕ × ℕ → Type 0
WritesPair formats n fields pair = pair_of formats n fields ≡ Ok pair

-- behind a header, each record writes a pair, and these are priorities: none stands twice, and they make no cycle
pub record ArePairsOf (formats : List Puid) (file : Records) (pairs : List (ℕ × ℕ)) : Type 0 where
  pub header : List (List ℕ)
  pub records : Records
  pub cut : file ≡ header ∷ records
  pub is_header : is_priority_header header ≡ true
  pub write : WriteAll (WritesPair formats) 1 records pairs
  pub are : ArePriorities (length formats) pairs

-- a list of formats, each outranking the next, the last the first
abbrev pub HasCycle : List (ℕ × ℕ) → Type 0
HasCycle pairs = (f : ℕ) × IsAbove pairs f f

-- the fault of the pair of the n-th record behind these pairs: it is one of them, or else makes a cycle with them
abbrev pub IsFaultOfPair : List (ℕ × ℕ) → ℕ → ℕ × ℕ → TableError → Type 0
IsFaultOfPair pairs n pair = FirstOf (Contains pairs pair) (error.PriorityTwice n) (λ e. HasCycle (pairs ++ pair ∷ []) × (e ≡ error.PriorityCycle n))

-- the fault of the n-th record behind these pairs: it writes no pair, or one with a fault
abbrev pub IsPairFault : List Puid → List (ℕ × ℕ) → ℕ → List (List ℕ) → TableError → Type 0
IsPairFault formats pairs n fields fault = (pair_of formats n fields ≡ Err fault) ⊎ ((pair : ℕ × ℕ) × (pair_of formats n fields ≡ Ok pair) × IsFaultOfPair pairs n pair fault)

-- behind a header, some record has this fault, and those before it write priorities
pub record HasFirstPairFault (formats : List Puid) (file : Records) (fault : TableError) : Type 0 where
  pub header : List (List ℕ)
  pub earlier : Records
  pub fields : List (List ℕ)
  pub later : Records
  pub cut : file ≡ header ∷ (earlier ++ fields ∷ later)
  pub is_header : is_priority_header header ≡ true
  pub pairs : List (ℕ × ℕ)
  pub write : WriteAll (WritesPair formats) 1 earlier pairs
  pub are : ArePriorities (length formats) pairs
  pub has : IsPairFault formats pairs (1 + length earlier) fields fault

-- the file begins with the header
abbrev pub BeginsWithPairHeader : Records → Type 0
BeginsWithPairHeader file = (header : List (List ℕ)) × (records : Records) × (file ≡ header ∷ records) × (is_priority_header header ≡ true)

-- there is no header, or some record has the fault
abbrev pub IsPriorityFaultOf : List Puid → Records → TableError → Type 0
IsPriorityFaultOf formats file fault = ((BeginsWithPairHeader file → ⊥) × (fault ≡ error.Header Priorities)) ⊎ HasFirstPairFault formats file fault
