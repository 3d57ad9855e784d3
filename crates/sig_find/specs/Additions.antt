-- What one pair more does to the priorities of a table.
use Rattle.std.specs.Prelude.{ℕ, ◌<◌, List, [], ◌∷◌, ◌++◌, All, Contains, length}
use Rattle.sig_bits.specs.Bytes.{IsBytes}
use Rattle.sig_core.specs.Hits.{HitsOf}
use Rattle.sig_table.specs.Ranked.{ranked}
use Rattle.sig_table.specs.Tables.{ArePriorities}
use Rattle.sig_table.specs.Views.{TableView}
use Rattle.sig_find.specs.Finding.{IsOfFormat}
use Rattle.sig_find.specs.Inclusions.{IsBeyond, IsIncluded, NoneHits}
use Rattle.sig_find.specs.Leaving.{IsNeverLeft, IsSometimesLeft}
use Rattle.sig_find.specs.declared.addition.Addition.{Addition}
use Rattle.sig_find.specs.declared.addition.Addition.TheVariants as addition
use Rattle.sig_find.specs.declared.life.Fate.{Fate}
use Rattle.sig_find.specs.declared.life.Fate.TheVariants as fate

-- the signature is of a format that a pair puts over this one
pub record IsOver (table : TableView) (pairs : List (ℕ × ℕ)) (format index : ℕ) : Type 0 where
  pub higher : ℕ
  pub of : IsOfFormat table higher index
  pub over : Contains pairs (higher, format)

-- all such signatures of the first so many
pub record AreOverBelow (table : TableView) (pairs : List (ℕ × ℕ)) (format limit : ℕ) (found : List ℕ) : Type 0 where
  pub each : All (IsOver table pairs format) found
  pub none_missing : (index : ℕ) → index < limit → IsOver table pairs format index → Contains found index

-- it is too much to find whether each file that this signature of the lower format hits is hit by one over it
pub record IsUndecided (table : TableView) (pairs : List (ℕ × ℕ)) (lower budget : ℕ) : Type 0 where
  pub over : List ℕ
  pub are_over : AreOverBelow table pairs lower (length table.signatures) over
  pub signature : ℕ
  pub of : IsOfFormat table lower signature
  pub beyond : IsBeyond table signature over budget

-- these and the pair are priorities, and with the pair behind these its lower format is left by some file; or they are none; or they are, and no file leaves it; or that is too much
abbrev pub IsAddition : TableView → List (ℕ × ℕ) → ℕ × ℕ → ℕ → Addition → Type 0
IsAddition table pairs pair budget addition.Safe = ArePriorities (length table.formats) (pairs ++ pair ∷ []) × IsSometimesLeft (ranked table (pairs ++ pair ∷ [])) pair.1
IsAddition table pairs pair budget addition.Cycle = ArePriorities (length table.formats) (pairs ++ pair ∷ []) → ⊥
IsAddition table pairs pair budget addition.Dead = ArePriorities (length table.formats) (pairs ++ pair ∷ []) × IsNeverLeft (ranked table (pairs ++ pair ∷ [])) pair.1
IsAddition table pairs pair budget addition.Unknown = ArePriorities (length table.formats) (pairs ++ pair ∷ []) × IsUndecided table (pairs ++ pair ∷ []) pair.1 budget

-- one of these signatures hits a file that none of the others does
pub record Escapes (table : TableView) (own others : List ℕ) : Type 0 where
  pub signature : ℕ
  pub is_own : Contains own signature
  pub file : List ℕ
  pub is_file : IsBytes file
  pub hits : HitsOf table signature file
  pub none_hits : NoneHits table others file

-- of one of these it is too much to find
pub record IsBeyondAny (table : TableView) (own others : List ℕ) (budget : ℕ) : Type 0 where
  pub signature : ℕ
  pub is_own : Contains own signature
  pub beyond : IsBeyond table signature others budget

-- one does; or none does; or it is too much
abbrev pub IsEscape : TableView → List ℕ → List ℕ → ℕ → Fate → Type 0
IsEscape table own others budget fate.Alive = Escapes table own others
IsEscape table own others budget fate.Dead = All (λ s. IsIncluded table s others) own
IsEscape table own others budget fate.Unknown = IsBeyondAny table own others budget

-- what that says of the lower format of a pair
abbrev pub addition_by : Fate → Addition
addition_by fate.Alive = addition.Safe
addition_by fate.Dead = addition.Dead
addition_by fate.Unknown = addition.Unknown
