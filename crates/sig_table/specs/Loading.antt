-- The table of two lists of records, or their first fault.
use Rattle.std.specs.Prelude.{ℕ, ◌==◌, ◌&&◌, ◌||◌, not, find, nat_eq, nat_le, nat_lt, Bool, true, false, if◌then◌else◌, List, [], ◌∷◌, ◌++◌, length, codes, position, Option, Some, None, Result, Ok, Err}
use Rattle.std.specs.List.{list_any, position_or_len}
use Rattle.std.specs.Option.{ok_or}
use Rattle.indexmap.specs.IndexSet.{insert_key}
use Rattle.csv.specs.Reading.{default_config, records, strip_bom}
use Rattle.sig_table.specs.declared.error.TableError.{TableError}
use Rattle.sig_table.specs.declared.error.TableError.TheVariants as error
use Rattle.sig_table.specs.declared.error.TableFile.TheVariants.{Signatures, Priorities}
use Rattle.sig_table.specs.declared.puid.Puid.{Puid}
use Rattle.sig_table.specs.declared.row.Row.{Row}
use Rattle.sig_table.specs.Views.{SequenceView, SignatureView, TableView}
use Rattle.sig_table.specs.Puids.{puid_eq, puid_of}
use Rattle.sig_table.specs.Ranking.{is_above}
use Rattle.sig_table.specs.Slots.{slot_count}
use Rattle.sig_table.specs.Judging.{◌>>=◌, Records, judged, unless}
use Rattle.sig_table.specs.Rows.{is_word, row_of, text_at}

-- the records of a text, as `csv` gives them with its default dialect
unfoldable pub records_of : List ℕ → Records
records_of text = records default_config (strip_bom text)

-- whether the fault is one of the signature file, a failed read of it included
abbrev pub is_of_signatures : TableError → Bool
is_of_signatures (error.Read Signatures) = true
is_of_signatures (error.Read Priorities) = false
is_of_signatures (error.Header Signatures) = true
is_of_signatures (error.Header Priorities) = false
is_of_signatures (error.Fields Signatures row) = true
is_of_signatures (error.Fields Priorities row) = false
is_of_signatures (error.Puid Signatures row) = true
is_of_signatures (error.Puid Priorities row) = false
is_of_signatures (error.PriorityUnknown row) = false
is_of_signatures (error.PrioritySelf row) = false
is_of_signatures (error.PriorityTwice row) = false
is_of_signatures (error.PriorityCycle row) = false
is_of_signatures error.OutOfMemory = false
is_of_signatures _ = true

-- the signature of a number, if it is there
abbrev pub signature_in : List SignatureView → ℕ → Option SignatureView
signature_in signatures number = find (λ s. nat_eq number s.number) signatures

-- the fault of the slots of a sequence
abbrev pub fault_of_slots : ℕ → SequenceView → Option TableError → Option TableError
fault_of_slots n sequence later = if nat_lt 65535 (slot_count sequence) then Some (error.TooManySlots n) else later

-- whether the table has no room for another format, or for another signature
abbrev pub is_full : TableView → Puid → Bool
is_full table puid = (nat_le 1000 (length table.formats) && not (list_any (puid_eq puid) table.formats)) || nat_le 4000 (length table.signatures)

-- the fault of a row, where its signature is there or is not
abbrev pub fault_at : Option SignatureView → TableView → ℕ → Row → Option TableError
fault_at (Some s) table n row =
    if not (position_or_len (puid_eq row.puid) table.formats == s.format) then Some (error.SignatureOfTwo n)
    else (if nat_le 8 (length s.sequences) then Some (error.TooManySequences n)
    else fault_of_slots n row.sequence None)
fault_at None table n row = fault_of_slots n row.sequence (if is_full table row.puid then Some (error.TooManyFormats n) else None)

-- the fault of a row that this table is to take, if it has one
unfoldable pub fault_in : TableView → ℕ → Row → Option TableError
fault_in table n row = fault_at (signature_in table.signatures row.number) table n row

-- the signatures with one of this number, which has no sequence yet where it is new
abbrev pub with_number : List SignatureView → ℕ → ℕ → List SignatureView
with_number signatures number format =
    if list_any (λ s. nat_eq number s.number) signatures then signatures
    else signatures ++ record { format = format; number = number; sequences = [] } ∷ []

-- the signatures, where the one of the number has one sequence more
abbrev pub grown : ℕ → SequenceView → List SignatureView → List SignatureView
grown number sequence [] = []
grown number sequence (s ∷ later) = if nat_eq number s.number then record s { sequences = s.sequences ++ sequence ∷ [] } ∷ later else s ∷ grown number sequence later

-- the table with the row
unfoldable pub with_row : TableView → Row → TableView
with_row table row = record {
  formats = insert_key puid_eq table.formats row.puid;
  signatures = grown row.number row.sequence (with_number table.signatures row.number (position_or_len (puid_eq row.puid) table.formats));
  priorities = table.priorities;
}

-- the table with the row of a record
unfoldable pub with_record : ℕ → TableView → List (List ℕ) → Result TableView TableError
with_record n table fields = row_of n fields >>= (λ row. unless (fault_in table n row) (Ok (with_row table row)))

-- the table with these records, which are counted on
abbrev pub table_from : ℕ → TableView → Records → Result TableView TableError
table_from n table records = judged with_record n table records

-- no row
abbrev pub empty_table : TableView
empty_table = record { formats = []; signatures = []; priorities = [] }

-- the first record of a signature file
abbrev pub is_signature_header : List (List ℕ) → Bool
is_signature_header fields =
    (length fields == 6) && is_word (text_at fields 0) (codes "puid") && is_word (text_at fields 1) (codes "signature")
    && is_word (text_at fields 2) (codes "position") && is_word (text_at fields 3) (codes "offset")
    && is_word (text_at fields 4) (codes "max_offset") && is_word (text_at fields 5) (codes "expression")

-- the first record of a priority file
abbrev pub is_priority_header : List (List ℕ) → Bool
is_priority_header fields = (length fields == 2) && is_word (text_at fields 0) (codes "higher") && is_word (text_at fields 1) (codes "lower")

-- the table of a signature file, with no priority, or its first fault
unfoldable pub signatures_of : Records → Result TableView TableError
signatures_of [] = Err (error.Header Signatures)
signatures_of (header ∷ rows) = if is_signature_header header then table_from 1 empty_table rows else Err (error.Header Signatures)

-- the format's index, where the PUID is among the formats
abbrev pub index_in : List Puid → Puid → Option ℕ
index_in formats puid = position (puid_eq puid) formats

-- the pair, where its formats are two
abbrev pub pair_of_two : ℕ → ℕ → ℕ → Result (ℕ × ℕ) TableError
pair_of_two n higher lower = if nat_eq higher lower then Err (error.PrioritySelf n) else Ok (higher, lower)

-- the pair of two PUIDs: both are to be read before either is looked for
abbrev pub pair_with : List Puid → ℕ → List ℕ → List ℕ → Result (ℕ × ℕ) TableError
pair_with formats n higher lower = do
  h ← ok_or (puid_of higher) (error.Puid Priorities n)
  l ← ok_or (puid_of lower) (error.Puid Priorities n)
  above ← ok_or (index_in formats h) (error.PriorityUnknown n)
  below ← ok_or (index_in formats l) (error.PriorityUnknown n)
  pair_of_two n above below

-- the pair that the fields write, by the indexes of its formats, or its first fault
unfoldable pub pair_of : List Puid → ℕ → List (List ℕ) → Result (ℕ × ℕ) TableError
pair_of formats n fields = if length fields == 2 then pair_with formats n (text_at fields 0) (text_at fields 1) else Err (error.Fields Priorities n)

-- whether the pair is listed
abbrev pub is_listed : List (ℕ × ℕ) → ℕ × ℕ → Bool
is_listed pairs pair = list_any (λ q. nat_eq pair.0 q.0 && nat_eq pair.1 q.1) pairs

-- the fault of a pair behind these: it is one of them, or they lead from its lower format down to its higher one
unfoldable pub pair_fault : List (ℕ × ℕ) → ℕ → ℕ × ℕ → Option TableError
pair_fault pairs n pair =
    if is_listed pairs pair then Some (error.PriorityTwice n)
    else (if is_above pairs pair.1 pair.0 then Some (error.PriorityCycle n) else None)

-- the pairs with that of a record
unfoldable pub with_pair : List Puid → ℕ → List (ℕ × ℕ) → List (List ℕ) → Result (List (ℕ × ℕ)) TableError
with_pair formats n pairs fields = pair_of formats n fields >>= (λ pair. unless (pair_fault pairs n pair) (Ok (pairs ++ pair ∷ [])))

-- the pairs with these records, which are counted on
abbrev pub pairs_from : List Puid → ℕ → List (ℕ × ℕ) → Records → Result (List (ℕ × ℕ)) TableError
pairs_from formats n pairs records = judged (with_pair formats) n pairs records

-- the pairs of a priority file in the order of their rows, or its first fault
unfoldable pub pairs_of : List Puid → Records → Result (List (ℕ × ℕ)) TableError
pairs_of formats [] = Err (error.Header Priorities)
pairs_of formats (header ∷ rows) = if is_priority_header header then pairs_from formats 1 [] rows else Err (error.Header Priorities)

-- the table of the records of both files, or their first fault: the signature file is judged first
unfoldable pub table_of : Records → Records → Result TableView TableError
table_of signatures priorities = signatures_of signatures >>= (λ table. pairs_of table.formats priorities >>= (λ pairs. Ok (record table { priorities = pairs })))
