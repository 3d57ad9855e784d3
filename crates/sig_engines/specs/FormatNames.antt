-- The names of formats, and the file that they stand in.
use Rattle.std.specs.Prelude.{◌==◌, ◌&&◌, ◌+◌, ℕ, Bool, true, false, List, [], ◌∷◌, ◌++◌, codes, length, Option, None, Some, Result, Ok, Err, if◌then◌else◌, is_some}
use Rattle.std.specs.Map.{lookup}
use Rattle.sig_table.specs.Judging.{Records}
use Rattle.sig_table.specs.Puids.{puid_eq, puid_of}
use Rattle.sig_table.specs.Rows.{is_word, text_at}
use Rattle.sig_table.specs.declared.puid.Puid.{Puid}
use Rattle.sig_engines.specs.declared.format_names.NamesError.{NamesError}
use Rattle.sig_engines.specs.declared.format_names.NamesError.TheVariants as error

-- formats and their names, in the order of their rows
abbrev pub NameList : Type 0
NameList = List (Puid × List ℕ)

abbrev pub name_or_none : Option (List ℕ) → List ℕ
name_or_none None = []
name_or_none (Some name) = name

-- the name of a format; nothing where it has none
abbrev pub name_in : NameList → Puid → List ℕ
name_in names puid = name_or_none (lookup (puid_eq puid) names)

-- whether the format has one
abbrev pub has_name : NameList → Puid → Bool
has_name names puid = is_some (lookup (puid_eq puid) names)

-- the names with that of a row of two fields
abbrev pub with_puid_name : ℕ → NameList → Option Puid → List ℕ → Result NameList NamesError
with_puid_name row names None name = Err (error.Puid row)
with_puid_name row names (Some puid) name = if has_name names puid then Err (error.Twice row) else Ok (names ++ (puid, name) ∷ [])

-- the names with that of a row, or the row's fault
abbrev pub with_name : ℕ → NameList → List (List ℕ) → Result NameList NamesError
with_name row names fields =
    if length fields == 2 then with_puid_name row names (puid_of (text_at fields 0)) (text_at fields 1) else Err (error.Fields row)

-- the names read on, or the fault that is there
abbrev pub read_on : Result NameList NamesError → (NameList → Result NameList NamesError) → Result NameList NamesError
read_on (Ok names) more = more names
read_on (Err fault) more = Err fault

-- the names with those of rows, the first of which has this number
unfoldable pub names_from : ℕ → NameList → Records → Result NameList NamesError
names_from row names [] = Ok names
names_from row names (fields ∷ records) = read_on (with_name row names fields) (λ more. names_from (row + 1) more records)

-- the first record of the file
abbrev pub is_names_header : List (List ℕ) → Bool
is_names_header fields = (length fields == 2) && is_word (text_at fields 0) (codes "puid") && is_word (text_at fields 1) (codes "name")

-- the names in a file of these records, or its first fault
abbrev pub names_of : Records → Result NameList NamesError
names_of [] = Err error.Header
names_of (header ∷ records) = if is_names_header header then names_from 1 [] records else Err error.Header

-- whether the fault is one of the file's records
abbrev pub is_judged : NamesError → Bool
is_judged error.Read = false
is_judged error.OutOfMemory = false
is_judged error.Header = true
is_judged (error.Fields row) = true
is_judged (error.Puid row) = true
is_judged (error.Twice row) = true
