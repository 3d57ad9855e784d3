-- A byte that each file which a signature hits has at one place.
use Rattle.std.specs.Prelude.{◌≡◌, ◌⊎◌, ℕ, ◌<◌, ◌≤◌, All, Bool, false, IsTrue, List, Some, length, slice_index, slice_index_or}
use Rattle.std.specs.List.{slice_get}
use Rattle.sig_scan.specs.Courses.{IsWholeProgramOf}
use Rattle.sig_scan.specs.declared.block_core.Prepared.{Prepared}
use Rattle.sig_scan.specs.declared.head.Head.{Head}
use Rattle.sig_table.specs.Standing.{Hits}
use Rattle.sig_table.specs.Views.{SignatureView, TableView}

-- the file has the byte of the head at its place, or the other one
pub record HasHead (h : Head) (file : List ℕ) : Type 0 where
  pub within : h.at < length file
  pub fits : (slice_index file h.at ≡ h.text) ⊎ (slice_index file h.at ≡ h.other)

-- the bytes have the head, or its place lies behind them
abbrev pub MayHave : List ℕ → Head → Type 0
MayHave bytes h = (length bytes ≤ h.at) ⊎ HasHead h bytes

-- a signature that the file may still hit has no head that these bytes do not have
abbrev pub AreAsked : List ℕ → List Bool → List Head → Type 0
AreAsked bytes may_hit heads = All (λ h. IsTrue (slice_index_or may_hit h.signature false) → MayHave bytes h) heads

-- each file that its signature hits has the head
abbrev pub IsHeadOf : TableView → Head → Type 0
IsHeadOf table h = (g : SignatureView) → slice_get table.signatures h.signature ≡ Some g → (file : List ℕ) → Hits g file → HasHead h file

abbrev pub AreHeadsOf : TableView → List Head → Type 0
AreHeadsOf table heads = All (IsHeadOf table) heads

-- heads and a compiled table, for any file
pub record IsPrepared (table : TableView) (p : Prepared) : Type 0 where
  pub heads : AreHeadsOf table p.heads.items
  pub program : IsWholeProgramOf table p.program
