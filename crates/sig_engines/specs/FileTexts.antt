-- What is written of a file that is matched by its name: lines, or records of CSV.
use Rattle.std.specs.Prelude.{◌≡◌, ℕ, Bool, true, false, List, [], ◌∷◌, ◌++◌, codes, flat_map, length, map, None, Option, Some, slice_get}
use Rattle.std.specs.Borrow.{Bor}
use Rattle.csv.specs.Writing.{default_writer, row_text}
use Rattle.sig_core.specs.declared.results.Hit.{Hit}
use Rattle.sig_engines.specs.FormatNames.{NameList, name_in}
use Rattle.sig_engines.specs.Lines.{AreAskedOfSome, file_lines, no_hit_line}
use Rattle.sig_engines.specs.Texts.{format_text, signature_text}
use Rattle.sig_engines.specs.declared.ask.MatchAsk.{MatchAsk}
use Rattle.sig_table.specs.Views.{TableView}
use Rattle.sig_table.specs.declared.puid.Puid.{Puid}

-- the name of the format with this PUID; nothing where there is none
abbrev pub name_of_format : NameList → Option Puid → List ℕ
name_of_format names None = []
name_of_format names (Some puid) = name_in names puid

-- the name of a format; nothing where no names are known
abbrev pub name_text : Option (Bor NameList) → TableView → ℕ → List ℕ
name_text None table format = []
name_text (Some names) table format = name_of_format names.now (slice_get table.formats format)

-- the record of a hit: the file's name, the PUID, the signature's number, and the format's name
abbrev pub hit_record : Option (Bor NameList) → List ℕ → TableView → Hit → List (List ℕ)
hit_record names name table hit = name ∷ format_text table hit.format.0 ∷ signature_text table hit.signature.0 ∷ name_text names table hit.format.0 ∷ []

-- the record of a file that has no hit: its name alone
abbrev pub no_hit_record : List ℕ → List (List ℕ)
no_hit_record name = name ∷ [] ∷ [] ∷ [] ∷ []

-- the records of a file, as `csv` writes them by default: one for each hit, in their order
abbrev pub file_records : Option (Bor NameList) → List ℕ → TableView → List Hit → List ℕ
file_records names name table [] = row_text default_writer (no_hit_record name)
file_records names name table (hit ∷ hits) = flat_map (λ h. row_text default_writer (hit_record names name table h)) (hit ∷ hits)

-- the same records, each by its fields
abbrev pub records_of_file : Option (Bor NameList) → List ℕ → TableView → List Hit → List (List (List ℕ))
records_of_file names name table [] = no_hit_record name ∷ []
records_of_file names name table (hit ∷ hits) = map (hit_record names name table) (hit ∷ hits)

-- the names of the fields
abbrev pub head_record : List (List ℕ)
head_record = codes "file" ∷ codes "puid" ∷ codes "signature" ∷ codes "name" ∷ []

-- what stands before all files: with `--csv` the names of the fields
abbrev pub head_text : Bool → List ℕ
head_text true = codes "file,puid,signature,name" ++ 10 ∷ []
head_text false = []

-- the line of a hit, with a tab and the name of its format at its end
abbrev pub named_line : NameList → List ℕ → TableView → Hit → List ℕ
named_line names name table hit =
    name ++ 9 ∷ format_text table hit.format.0 ++ 32 ∷ signature_text table hit.signature.0 ++ 9 ∷ name_of_format names (slice_get table.formats hit.format.0) ++ 10 ∷ []

-- the lines of a file with the names of its formats
abbrev pub named_lines : NameList → List ℕ → TableView → List Hit → List ℕ
named_lines names name table [] = no_hit_line (Some name)
named_lines names name table (hit ∷ hits) = flat_map (named_line names name table) (hit ∷ hits)

-- what is written of a file: its lines, or with `--csv` its records
abbrev pub file_text : Bool → Option (Bor NameList) → List ℕ → TableView → List Hit → List ℕ
file_text true names name table hits = file_records names name table hits
file_text false None name table hits = file_lines (Some name) table hits
file_text false (Some names) name table hits = named_lines names.now name table hits

-- this is written of a file of this name, of so many hits: of the one to come, where its bytes are known
pub record IsTextOfSome (ask : MatchAsk) (table : TableView) (name : List ℕ) (to_come : Option (List ℕ)) (count : ℕ) (text : List ℕ) : Type 0 where
  pub hits : List Hit
  pub are_asked : AreAskedOfSome ask.all table to_come hits
  pub counts : count ≡ length hits
  pub is_text : text ≡ file_text ask.csv ask.names name table hits
