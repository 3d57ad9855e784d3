-- What holds of every sequence, signature and table.
use Rattle.std.specs.Prelude.{◌⊎◌, ℕ, ◌<◌, ◌≤◌, ◌^◌, ⊤, List, [], ◌∷◌, ◌++◌, length, map, All, Contains}
use Rattle.sig_expr.specs.Profile.{IsExpression}
use Rattle.sig_table.specs.declared.position.Position.{Position}
use Rattle.sig_table.specs.declared.position.Position.TheVariants as position
use Rattle.sig_table.specs.Views.{SequenceView, SignatureView, TableView}
use Rattle.sig_table.specs.Ranking.{NoCycle}
use Rattle.sig_table.specs.Slots.{slot_count}

-- the least offset is not above the greatest, which is at most 65,535
abbrev pub InOrder : Position → Type 0
InOrder (position.Bof min max) = (min ≤ max) × (max ≤ 65535)
InOrder (position.Eof min max) = (min ≤ max) × (max ≤ 65535)
InOrder position.Variable = ⊤

-- offsets in order, an expression of the profile, and at most 65,535 slots
pub record IsSequence (s : SequenceView) : Type 0 where
  pub offsets : InOrder s.position
  pub expression : IsExpression s.items
  pub slots : slot_count s ≤ 65535

-- a number that one to nine digits write, the first not 0
abbrev pub IsNumber : ℕ → Type 0
IsNumber n = (0 < n) × (n < 10 ^ 9)

-- a signature of one of so many formats: its number, and one to eight sequences
pub record IsSignature (formats : ℕ) (s : SignatureView) : Type 0 where
  pub known : s.format < formats
  pub number : IsNumber s.number
  pub some : 0 < length s.sequences
  pub few : length s.sequences ≤ 8
  pub sequences : All IsSequence s.sequences

-- no member stands twice
abbrev pub AllDifferent : {A : Type 0} → List A → Type 0
AllDifferent [] = ⊤
AllDifferent (x ∷ later) = (Contains later x → ⊥) × AllDifferent later

-- behind those that were met, each format was met before or is above all that were
abbrev pub FormatsRise : List ℕ → List ℕ → Type 0
FormatsRise met [] = ⊤
FormatsRise met (f ∷ later) = (Contains met f ⊎ All (λ g. g < f) met) × FormatsRise (met ++ f ∷ []) later

-- pairs of so many formats, none twice and without a cycle
pub record ArePriorities (formats : ℕ) (pairs : List (ℕ × ℕ)) : Type 0 where
  pub known : All (λ pair. (pair.0 < formats) × (pair.1 < formats)) pairs
  pub different : AllDifferent pairs
  pub no_cycle : NoCycle pairs

-- at most 1,000 formats and 4,000 signatures, no PUID and no number twice, the formats in the order of their first signatures, and priorities among them
pub record IsTable (t : TableView) : Type 0 where
  pub formats : length t.formats ≤ 1000
  pub signatures : length t.signatures ≤ 4000
  pub puids : All (λ p. IsNumber p.number) t.formats
  pub different_puids : AllDifferent t.formats
  pub each : All (IsSignature (length t.formats)) t.signatures
  pub different_numbers : AllDifferent (map (λ s. s.number) t.signatures)
  pub in_order : FormatsRise [] (map (λ s. s.format) t.signatures)
  pub priorities : ArePriorities (length t.formats) t.priorities

-- each format has a signature
abbrev pub HasAllSignatures : TableView → Type 0
HasAllSignatures t = (f : ℕ) → f < length t.formats → Contains (map (λ s. s.format) t.signatures) f
