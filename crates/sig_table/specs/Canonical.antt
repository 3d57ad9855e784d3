-- The canonical CSV of a table.
use Rattle.std.specs.Prelude.{ℕ, List, [], ◌∷◌, ◌++◌, codes, map, Option, Some, None, slice_get}
use Rattle.std.specs.Fmt.{decimal}
use Rattle.std.specs.List.{flat_map}
use Rattle.sig_expr.specs.Canon.{canon}
use Rattle.sig_table.specs.Judging.{Records}
use Rattle.sig_table.specs.declared.position.Position.{Position}
use Rattle.sig_table.specs.declared.position.Position.TheVariants as position
use Rattle.sig_table.specs.declared.puid.Puid.{Puid}
use Rattle.sig_table.specs.Views.{SequenceView, SignatureView, TableView}
use Rattle.sig_table.specs.Puids.{puid_text}

-- the fields of a position: its word, the offset and the greatest offset, which is always written
abbrev pub position_fields : Position → List (List ℕ)
position_fields (position.Bof min max) = codes "BOF" ∷ decimal min ∷ decimal max ∷ []
position_fields (position.Eof min max) = codes "EOF" ∷ decimal min ∷ decimal max ∷ []
position_fields position.Variable = codes "Variable" ∷ [] ∷ [] ∷ []

-- a PUID's text, where it is there
abbrev pub named : Option Puid → List ℕ
named None = []
named (Some puid) = puid_text puid

-- the text of a format's PUID
abbrev pub name_of : List Puid → ℕ → List ℕ
name_of formats format = named (slice_get formats format)

-- the record of a sequence, of the signature of this number and of the format of this name
abbrev pub sequence_record : List ℕ → ℕ → SequenceView → List (List ℕ)
sequence_record name number sequence = name ∷ decimal number ∷ (position_fields sequence.position ++ canon sequence.items ∷ [])

-- the records of a signature: one for each sequence
abbrev pub records_of_signature : List Puid → SignatureView → Records
records_of_signature formats s = map (sequence_record (name_of formats s.format) s.number) s.sequences

-- the first record of a signature file
abbrev pub signature_header : List (List ℕ)
signature_header = codes "puid" ∷ codes "signature" ∷ codes "position" ∷ codes "offset" ∷ codes "max_offset" ∷ codes "expression" ∷ []

-- the first record of a priority file
abbrev pub priority_header : List (List ℕ)
priority_header = codes "higher" ∷ codes "lower" ∷ []

-- the records of the signature file: signatures in table order, the sequences of each together
abbrev pub signature_records : TableView → Records
signature_records t = signature_header ∷ flat_map (records_of_signature t.formats) t.signatures

-- the record of a pair
abbrev pub pair_record : List Puid → ℕ × ℕ → List (List ℕ)
pair_record formats pair = name_of formats pair.0 ∷ name_of formats pair.1 ∷ []

-- the records of a priority file: the pairs in their order
abbrev pub pair_records : List Puid → List (ℕ × ℕ) → Records
pair_records formats pairs = priority_header ∷ map (pair_record formats) pairs

-- the records of the priority file
abbrev pub priority_records : TableView → Records
priority_records t = pair_records t.formats t.priorities

-- fields with commas between them
unfoldable pub joined : List (List ℕ) → List ℕ
joined [] = []
joined (field ∷ []) = field
joined (field ∷ next ∷ later) = field ++ (44 ∷ joined (next ∷ later))

-- a line: the fields of a record, and a line feed
abbrev pub line_text : List (List ℕ) → List ℕ
line_text fields = joined fields ++ 10 ∷ []

-- the canonical signature file
unfoldable pub signature_csv : TableView → List ℕ
signature_csv t = flat_map line_text (signature_records t)

-- the canonical priority file of these formats and pairs
unfoldable pub pairs_csv : List Puid → List (ℕ × ℕ) → List ℕ
pairs_csv formats pairs = flat_map line_text (pair_records formats pairs)

-- the canonical priority file
abbrev pub priority_csv : TableView → List ℕ
priority_csv t = pairs_csv t.formats t.priorities
