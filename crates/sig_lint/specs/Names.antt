-- The formats that two files name, whether or not the rows that name them have faults.
use Rattle.std.specs.Prelude.{ℕ, ◌==◌, ◌&&◌, ◌||◌, Bool, false, List, [], ◌∷◌, length, take, drop, fold, Option, Some, None, if◌then◌else◌}
use Rattle.std.specs.List.{list_any}
use Rattle.indexmap.specs.IndexSet.{insert_key}
use Rattle.sig_table.specs.declared.puid.Puid.{Puid}
use Rattle.sig_table.specs.Judging.{Records}
use Rattle.sig_table.specs.Loading.{is_signature_header}
use Rattle.sig_table.specs.Puids.{puid_eq, puid_of}
use Rattle.sig_table.specs.Rows.{text_at}

-- the names with a PUID, if there is one
abbrev pub with_puid : List Puid → Option Puid → List Puid
with_puid names None = names
with_puid names (Some puid) = insert_key puid_eq names puid

-- the names with that of a row of the signature file
abbrev pub with_row_name : List Puid → List (List ℕ) → List Puid
with_row_name names fields = with_puid names (puid_of (text_at fields 0))

-- the names with those of a row of the priority file
abbrev pub with_pair_names : List Puid → List (List ℕ) → List Puid
with_pair_names names fields = with_puid (with_puid names (puid_of (text_at fields 0))) (puid_of (text_at fields 1))

-- whether a file begins with the header of a signature file
abbrev pub has_signature_header : Records → Bool
has_signature_header [] = false
has_signature_header (header ∷ rows) = is_signature_header header

-- the records behind the first
abbrev pub rows_of_file : Records → Records
rows_of_file [] = []
rows_of_file (header ∷ rows) = rows

-- the different PUIDs that the rows of the signature file name, or those of the priority file where the signature file has no header
unfoldable pub names_of : Records → Records → List Puid
names_of signatures priorities =
    if has_signature_header signatures then fold with_row_name [] (rows_of_file signatures)
    else fold with_pair_names [] (rows_of_file priorities)

-- the formats by which priorities are judged: the first thousand names, since no table has more
abbrev pub formats_among : List Puid → List Puid
formats_among names = take 1000 names

-- the names behind the first thousand
abbrev pub names_beyond : List Puid → List Puid
names_beyond names = drop 1000 names

-- whether the PUID is among the names
abbrev pub is_among : List Puid → Option Puid → Bool
is_among names None = false
is_among names (Some puid) = list_any (puid_eq puid) names

-- whether the text is of one of the names
abbrev pub is_named : List Puid → List ℕ → Bool
is_named names text = is_among names (puid_of text)

-- whether two texts are of names, and one of them is behind the first thousand
abbrev pub are_beyond : List Puid → List ℕ → List ℕ → Bool
are_beyond names higher lower = (is_named names higher && is_named names lower) && (is_named (names_beyond names) higher || is_named (names_beyond names) lower)

-- whether the row is of a pair of named formats for which no table has room
unfoldable pub is_beyond : List Puid → List (List ℕ) → Bool
is_beyond names fields = (length fields == 2) && are_beyond names (text_at fields 0) (text_at fields 1)
