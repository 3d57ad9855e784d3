-- The files in which what is ambiguous is kept: one for each ambiguous pair.
use Rattle.std.specs.Borrow.{Bor}
use Rattle.std.specs.Prelude.{◌≡◌, ℕ, ⊤, List, ◌++◌, codes, Option, None, Some, slice_get}
use Rattle.std.specs.Fmt.{decimal}
use Rattle.sig_find.specs.declared.pair.PairDecision.{PairDecision}
use Rattle.sig_find.specs.declared.pair.PairDecision.TheVariants.{Ambiguous, Decided, Tried, Unknown}
use Rattle.sig_table.specs.Views.{TableView}
use Rattle.sig_table.specs.declared.puid.Puid.{Puid}
use Rattle.sig_table.specs.declared.puid.Registry.{Registry}
use Rattle.sig_table.specs.declared.puid.Registry.TheVariants.{Fmt, XFmt}
use Rattle.sig_engines.specs.declared.witness_name.FormatName.{FormatName}
use Rattle.sig_engines.specs.declared.witness_name.WitnessName.{WitnessName}

-- the registry's name, with `_` for the slash
abbrev pub registry_name : Registry → List ℕ
registry_name Fmt = codes "fmt_"
registry_name XFmt = codes "x-fmt_"

-- a format in a file's name
abbrev pub format_name : FormatName → List ℕ
format_name name = registry_name name.registry ++ decimal name.number

-- `A-B.bin`
abbrev pub witness_name : WitnessName → List ℕ
witness_name name = format_name name.first ++ codes "-" ++ format_name name.second ++ codes ".bin"

-- the same in a folder
abbrev pub path_text : List ℕ → WitnessName → List ℕ
path_text folder name = folder ++ codes "/" ++ witness_name name

-- the name has the registry and the number of this format
pub record IsNameOf (table : TableView) (format : ℕ) (name : FormatName) : Type 0 where
  pub puid : Puid
  pub at : slice_get table.formats format ≡ Some puid
  pub registry : name.registry ≡ puid.registry
  pub number : name.number ≡ puid.number

-- the name is that of two formats
pub record IsWitnessOf (table : TableView) (formats : ℕ × ℕ) (name : WitnessName) : Type 0 where
  pub first : IsNameOf table formats.0 name.first
  pub second : IsNameOf table formats.1 name.second

-- these bytes are kept in the folder under the name of the two formats; `Made` says that a file of a name was made with some bytes
pub record IsKept (Made : List ℕ → List ℕ → Type 0) (table : TableView) (folder : List ℕ) (formats : ℕ × ℕ) (file : List ℕ) : Type 0 where
  pub name : WitnessName
  pub is : IsWitnessOf table formats name
  pub made : Made (path_text folder name) file

-- the file of an ambiguous pair is kept
abbrev pub KeepsIn : (List ℕ → List ℕ → Type 0) → TableView → List ℕ → ℕ × ℕ → Option PairDecision → Type 0
KeepsIn Made table folder formats None = ⊤
KeepsIn Made table folder formats (Some Decided) = ⊤
KeepsIn Made table folder formats (Some (Ambiguous s t file)) = IsKept Made table folder formats file.items
KeepsIn Made table folder formats (Some (Tried s t file)) = IsKept Made table folder formats file.items
KeepsIn Made table folder formats (Some (Unknown s t)) = ⊤

-- where there is a folder for it
abbrev pub KeepsWitness : (List ℕ → List ℕ → Type 0) → TableView → Option (Bor (List ℕ)) → ℕ × ℕ → Option PairDecision → Type 0
KeepsWitness Made table None formats decision = ⊤
KeepsWitness Made table (Some folder) formats decision = KeepsIn Made table folder.now formats decision
