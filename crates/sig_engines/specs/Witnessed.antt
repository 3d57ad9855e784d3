-- What is printed of a file that leaves two formats, and of one that does not.
use Rattle.std.specs.Prelude.{◌≡◌, ℕ, Bool, true, false, List, [], ◌∷◌, ◌++◌, codes, IfSome, Option, Some, None, slice_get}
use Rattle.sig_bits.specs.Bytes.{IsBytes}
use Rattle.sig_bits.specs.Device.{Adds}
use Rattle.sig_cert.specs.Deciding.{Ambiguous, AreFirstLeft}
use Rattle.sig_table.specs.Puids.{puid_text}
use Rattle.sig_table.specs.Views.{TableView}
use Rattle.sig_table.specs.declared.ids.FormatId.{FormatId}
use Rattle.sig_table.specs.declared.puid.Puid.{Puid}

-- two PUIDs with a space between them, and a line feed; nothing where one of them is not in the table
abbrev pub two_puids : Option Puid → Option Puid → List ℕ
two_puids (Some a) (Some b) = puid_text a ++ 32 ∷ puid_text b ++ 10 ∷ []
two_puids (Some a) None = []
two_puids None b = []

-- the PUIDs of two formats
abbrev pub pair_text : TableView → FormatId × FormatId → List ℕ
pair_text table two = two_puids (slice_get table.formats two.0.0) (slice_get table.formats two.1.0)

-- the line of a file: the two formats that it leaves, or that it is not ambiguous
abbrev pub witness_line : TableView → Option (FormatId × FormatId) → List ℕ
witness_line table (Some two) = codes "ambiguous " ++ pair_text table two
witness_line table None = codes "not ambiguous" ++ 10 ∷ []

-- what is written grows by the line of an ambiguous file, which names the first two formats that it leaves, or by that of one that is not ambiguous
abbrev pub AddsWitness : Bool → TableView → List ℕ → Option (List ℕ) → Option (List ℕ) → Type 0
AddsWitness true table file before after = (two : FormatId × FormatId) × AreFirstLeft table file two × Adds before (witness_line table (Some two)) after
AddsWitness false table file before after = (¬ Ambiguous table file) × Adds before (witness_line table None) after

-- the file is some bytes: those to come, where they are known
pub record AddsWitnessOfSome (is_ambiguous : Bool) (table : TableView) (to_come before after : Option (List ℕ)) : Type 0 where
  pub file : List ℕ
  pub bytes : IsBytes file
  pub is_to_come : IfSome to_come (λ bytes. file ≡ bytes)
  pub adds_witness : AddsWitness is_ambiguous table file before after
