-- Whether each file that a signature hits is hit by one of some others.
use Rattle.std.specs.Prelude.{◌≡◌, ◌⊎◌, ℕ, ⊤, ◌<◌, ◌≤◌, List, [], ◌∷◌, All, Contains, length}
use Rattle.std.specs.List.Sorted.{IsStrictlyIncreasing}
use Rattle.sig_bits.specs.Bytes.{IsBytes}
use Rattle.sig_core.specs.Hits.{HitsOf}
use Rattle.sig_table.specs.Views.{TableView}
use Rattle.sig_find.specs.Finding.{HasMoreRowsOver}
use Rattle.sig_find.specs.declared.inclusion.Inclusion.{Inclusion}
use Rattle.sig_find.specs.declared.inclusion.Inclusion.TheVariants as inclusion
use Rattle.sig_find.specs.declared.inclusion.Answer.{Answer}
use Rattle.sig_find.specs.declared.inclusion.Answer.TheVariants as answer

-- none of these signatures hits the file
abbrev pub NoneHits : TableView → List ℕ → List ℕ → Type 0
NoneHits table signatures file = All (λ index. ¬ HitsOf table index file) signatures

-- each file that the signature hits is hit by one of the others: of no such file it holds that none of them hits it
abbrev pub IsIncluded : TableView → ℕ → List ℕ → Type 0
IsIncluded table s others = (file : List ℕ) → IsBytes file → HitsOf table s file → ¬ NoneHits table others file

-- a shortest file that the signature hits and none of the others does; it has fewer bytes than the budget
pub record IsCounterexample (table : TableView) (s : ℕ) (others : List ℕ) (budget : ℕ) (file : List ℕ) : Type 0 where
  pub is_file : IsBytes file
  pub hits : HitsOf table s file
  pub none_hits : NoneHits table others file
  pub shortest : (other : List ℕ) → IsBytes other → HitsOf table s other → NoneHits table others other → length file ≤ length other
  pub few : length file < budget

-- this one of the others is needed beside these: it hits a file that the signature hits and none of these does
pub record IsNeeded (table : TableView) (s : ℕ) (others blockers : List ℕ) (blocker : ℕ) : Type 0 where
  pub among : Contains others blocker
  pub file : List ℕ
  pub is_file : IsBytes file
  pub hits : HitsOf table s file
  pub none_hits : NoneHits table blockers file
  pub blocks : HitsOf table blocker file

-- each of these was needed beside those before it; the last one stands first
abbrev pub AreNeeded : TableView → ℕ → List ℕ → List ℕ → Type 0
AreNeeded table s others [] = ⊤
AreNeeded table s others (blocker ∷ before) = IsNeeded table s others before blocker × AreNeeded table s others before

-- these were taken one after another, each since it was needed
pub record AreTaken (table : TableView) (s : ℕ) (others taken : List ℕ) : Type 0 where
  pub order : List ℕ
  pub needed : AreNeeded table s others order
  pub all : All (Contains taken) order
  pub long : length order ≡ length taken

-- some of the others were taken, since each was needed, and over them there are more rows than the budget, or they are more than 64
pub record IsBeyond (table : TableView) (s : ℕ) (others : List ℕ) (budget : ℕ) : Type 0 where
  pub taken : List ℕ
  pub rising : IsStrictlyIncreasing taken
  pub are_taken : AreTaken table s others taken
  pub reason : (64 < length taken) ⊎ HasMoreRowsOver table s s taken budget

-- each such file is hit by one of the others; or this file is a counterexample; or it is too much
abbrev pub IsInclusion : TableView → ℕ → List ℕ → ℕ → Inclusion → Type 0
IsInclusion table s others budget inclusion.Included = IsIncluded table s others
IsInclusion table s others budget (inclusion.Counterexample file) = IsCounterexample table s others budget file.items
IsInclusion table s others budget inclusion.Unknown = IsBeyond table s others budget

-- the same of a search over some blockers; or one of the others that is needed beside these, and is not among them
abbrev pub IsAnswer : TableView → ℕ → List ℕ → List ℕ → ℕ → Answer → Type 0
IsAnswer table s others blockers budget answer.Included = IsIncluded table s others
IsAnswer table s others blockers budget (answer.Counterexample file) = IsCounterexample table s others budget file.items
IsAnswer table s others blockers budget (answer.Blocked blocker) = IsNeeded table s others blockers blocker.0 × ¬ Contains blockers blocker.0
IsAnswer table s others blockers budget answer.OverBudget = HasMoreRowsOver table s s blockers budget
