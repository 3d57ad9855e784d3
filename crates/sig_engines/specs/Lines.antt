-- The lines that a match prints.
use Rattle.std.specs.Prelude.{◌≡◌, ℕ, Bool, true, false, List, [], ◌∷◌, ◌++◌, IfSome, Option, Some, None, slice_get}
use Rattle.std.specs.Fmt.{decimal}
use Rattle.std.specs.List.{flat_map}
use Rattle.sig_bits.specs.Bytes.{IsBytes}
use Rattle.sig_bits.specs.Device.{Adds}
use Rattle.sig_core.specs.Hits.{HitFormats, Left}
use Rattle.sig_core.specs.declared.results.Hit.{Hit}
use Rattle.sig_table.specs.Views.{SignatureView, TableView}
use Rattle.sig_table.specs.Puids.{puid_text}
use Rattle.sig_table.specs.declared.puid.Puid.{Puid}

-- the PUID, a space, the signature's number and a line feed; nothing where one of the two is not in the table
abbrev pub line_with : Option Puid → Option SignatureView → List ℕ
line_with (Some puid) (Some signature) = puid_text puid ++ 32 ∷ decimal signature.number ++ 10 ∷ []
line_with (Some puid) None = []
line_with None signature = []

-- the line of a hit
abbrev pub line_of : TableView → Hit → List ℕ
line_of table hit = line_with (slice_get table.formats hit.format.0) (slice_get table.signatures hit.signature.0)

-- the lines of hits, in their order
abbrev pub lines_of : TableView → List Hit → List ℕ
lines_of table hits = flat_map (line_of table) hits

-- what stands before each line of a file: nothing where it is the only one, else its name and a tab
abbrev pub line_head : Option (List ℕ) → List ℕ
line_head None = []
line_head (Some name) = name ++ 9 ∷ []

-- what is printed where there is no hit: nothing for the only file, else its name, a tab and a hyphen
abbrev pub no_hit_line : Option (List ℕ) → List ℕ
no_hit_line None = []
no_hit_line (Some name) = name ++ 9 ∷ 45 ∷ 10 ∷ []

-- the lines of a file, of this name where it is one of several: one for each hit, in their order
abbrev pub file_lines : Option (List ℕ) → TableView → List Hit → List ℕ
file_lines name table [] = no_hit_line name
file_lines name table (hit ∷ hits) = flat_map (λ h. line_head name ++ line_of table h) (hit ∷ hits)

-- the hit's signature is in the table, and is of the hit's format
pub record IsOf (table : TableView) (hit : Hit) : Type 0 where
  pub signature : SignatureView
  pub at : slice_get table.signatures hit.signature.0 ≡ Some signature
  pub of_format : signature.format ≡ hit.format.0

-- with `--all` the hits are of all formats that the file hits, else of those that are left
abbrev pub AreAsked : Bool → TableView → List ℕ → List Hit → Type 0
AreAsked true table file hits = HitFormats table file hits
AreAsked false table file hits = Left table file hits

-- the hits that are asked for are those of some file: of the one to come, where its bytes are known
pub record AreAskedOfSome (all : Bool) (table : TableView) (to_come : Option (List ℕ)) (hits : List Hit) : Type 0 where
  pub file : List ℕ
  pub bytes : IsBytes file
  pub is_to_come : IfSome to_come (λ bytes. file ≡ bytes)
  pub are_asked : AreAsked all table file hits

-- these are the lines of a file: of the one to come, where its bytes are known
pub record AreLinesOfSome (all : Bool) (table : TableView) (name to_come : Option (List ℕ)) (lines : List ℕ) : Type 0 where
  pub hits : List Hit
  pub are_asked : AreAskedOfSome all table to_come hits
  pub are_lines : lines ≡ file_lines name table hits

-- what is written grows by the lines of the hits that are asked for
pub record AddsLines (all : Bool) (table : TableView) (file : List ℕ) (before after : Option (List ℕ)) : Type 0 where
  pub hits : List Hit
  pub are_asked : AreAsked all table file hits
  pub adds : Adds before (lines_of table hits) after

-- the file is some file: the one to come, where its bytes are known
pub record AddsLinesOfSome (all : Bool) (table : TableView) (to_come before after : Option (List ℕ)) : Type 0 where
  pub file : List ℕ
  pub bytes : IsBytes file
  pub is_to_come : IfSome to_come (λ bytes. file ≡ bytes)
  pub adds_lines : AddsLines all table file before after
