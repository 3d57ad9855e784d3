-- What is found of the signatures of a format: which of them are hit by a file that leaves it, and which by none.
use Rattle.std.specs.Prelude.{◌≡◌, ℕ, ◌≤◌, ◌<◌, Bool, true, false, List, All, Some, if◌then◌else◌, length, map, slice_get}
use Rattle.std.specs.List.{list_any}
use Rattle.sig_bits.specs.Bytes.{IsBytes}
use Rattle.sig_cert.specs.Pairs.{signatures_of}
use Rattle.sig_core.specs.Hits.{HitsOf}
use Rattle.sig_table.specs.Views.{TableView}
use Rattle.sig_find.specs.Finding.{IsTooMuch}
use Rattle.sig_find.specs.Leaving.{LeavesFormat}
use Rattle.sig_find.specs.declared.life.Life.{Life}
use Rattle.sig_find.specs.declared.life.Life.TheVariants as life
use Rattle.sig_find.specs.declared.life.Fate.{Fate}
use Rattle.sig_find.specs.declared.life.Fate.TheVariants as fate
use Rattle.sig_find.specs.declared.life.SignatureLife.{SignatureLife}
use Rattle.sig_table.specs.Places.{places_of}

-- no file that the signature hits leaves the format
abbrev pub IsDead : TableView → ℕ → ℕ → Type 0
IsDead table format s = (file : List ℕ) → IsBytes file → HitsOf table s file → ¬ LeavesFormat table file format

-- a shortest file that the signature hits and that leaves the format; it has fewer bytes than the budget
pub record ShowsAlive (table : TableView) (format s budget : ℕ) (file : List ℕ) : Type 0 where
  pub is_file : IsBytes file
  pub hits : HitsOf table s file
  pub leaves : LeavesFormat table file format
  pub shortest : (other : List ℕ) → IsBytes other → HitsOf table s other → LeavesFormat table other format → length file ≤ length other
  pub few : length file < budget

-- what is found of a signature of the format: such a file; that it is dead; or that it is too much for the budget
abbrev pub IsLifeOf : TableView → ℕ → ℕ → ℕ → Life → Type 0
IsLifeOf table budget format s (life.Alive file) = ShowsAlive table format s budget file.items
IsLifeOf table budget format s life.Dead = IsDead table format s
IsLifeOf table budget format s life.Unknown = IsTooMuch table s s budget

-- what is found of the signatures of a format, of each in its order
pub record AreLives (table : TableView) (budget format : ℕ) (lives : List SignatureLife) : Type 0 where
  pub all : map (λ l. l.signature) lives ≡ places_of format 0 table.signatures
  pub each : All (λ l. IsLifeOf table budget format l.signature.0 l.life) lives

-- the same of each format before this one
pub record AreLivesBelow (table : TableView) (budget count : ℕ) (lives : List (List SignatureLife)) : Type 0 where
  pub every : length lives ≡ count
  pub each : (format : ℕ) (own : List SignatureLife) → slice_get lives format ≡ Some own → AreLives table budget format own

-- what is found of the signatures of each format, of the formats in their order
abbrev pub AreLivesOfTable : TableView → ℕ → List (List SignatureLife) → Type 0
AreLivesOfTable table budget lives = AreLivesBelow table budget (length table.formats) lives

-- each signature of the format is dead
abbrev pub AreAllDead : TableView → ℕ → Type 0
AreAllDead table format = All (IsDead table format) (signatures_of table format)

-- whether some file leaves the format of a signature that hits it, as far as that was found
abbrev pub fate_of : Life → Fate
fate_of (life.Alive file) = fate.Alive
fate_of life.Dead = fate.Dead
fate_of life.Unknown = fate.Unknown

abbrev pub is_alive : Fate → Bool
is_alive fate.Alive = true
is_alive fate.Dead = false
is_alive fate.Unknown = false

abbrev pub is_unknown : Fate → Bool
is_unknown fate.Alive = false
is_unknown fate.Dead = false
is_unknown fate.Unknown = true

-- a format is alive with one of its signatures; else it is unknown where one is; else it is dead
abbrev pub format_fate : List SignatureLife → Fate
format_fate lives =
    if list_any (λ l. is_alive (fate_of l.life)) lives then fate.Alive
    else if list_any (λ l. is_unknown (fate_of l.life)) lives then fate.Unknown
    else fate.Dead
