-- The table that rows give, said of all rows at once.
use Rattle.std.specs.Prelude.{◌≡◌, ◌⊎◌, ℕ, ◌+◌, ◌<◌, ◌≤◌, All, Contains, Bool, true, not, nat_eq, List, [], ◌∷◌, ◌++◌, length, map, filter, Ok, Err}
use Rattle.std.specs.List.{position_or_len}
use Rattle.sig_table.specs.declared.error.TableError.{TableError}
use Rattle.sig_table.specs.declared.error.TableError.TheVariants as error
use Rattle.sig_table.specs.declared.error.TableFile.TheVariants.{Signatures}
use Rattle.sig_table.specs.declared.puid.Puid.{Puid}
use Rattle.sig_table.specs.declared.row.Row.{Row}
use Rattle.sig_table.specs.Views.{SignatureView, TableView}
use Rattle.sig_table.specs.Judging.{FirstOf, Records, WriteAll}
use Rattle.sig_table.specs.Loading.{is_signature_header}
use Rattle.sig_table.specs.Puids.{puid_eq}
use Rattle.sig_table.specs.Rows.{row_of}
use Rattle.sig_table.specs.Slots.{slot_count}

-- the different members, in order of first appearance
abbrev pub firsts : {A : Type 0} → (A → A → Bool) → List A → List A
firsts eq [] = []
firsts eq (x ∷ later) = x ∷ filter (λ y. not (eq x y)) (firsts eq later)

-- the different PUIDs, in order of first row
abbrev pub formats_of : List Row → List Puid
formats_of rows = firsts puid_eq (map (λ row. row.puid) rows)

-- the different signature numbers, in order of first row
abbrev pub numbers_of : List Row → List ℕ
numbers_of rows = firsts nat_eq (map (λ row. row.number) rows)

-- the rows of a number, in row order
abbrev pub rows_of : ℕ → List Row → List Row
rows_of number rows = filter (λ row. nat_eq number row.number) rows

-- the place of the first row's PUID among the formats
abbrev pub first_format : List Puid → List Row → ℕ
first_format formats [] = 0
first_format formats (row ∷ later) = position_or_len (puid_eq row.puid) formats

-- the signature of a number: its first row's format, and the sequences of its rows in row order
abbrev pub signature_of : List Row → ℕ → SignatureView
signature_of rows number = record {
  format = first_format (formats_of rows) (rows_of number rows);
  number = number;
  sequences = map (λ row. row.sequence) (rows_of number rows);
}

-- the table of the rows, with no priority
abbrev pub gathered : List Row → TableView
gathered rows = record { formats = formats_of rows; signatures = map (signature_of rows) (numbers_of rows); priorities = [] }

-- the record of this number writes the row
abbrev pub Writes : ℕ → List (List ℕ) → Row → Type 0
Writes n fields row = row_of n fields ≡ Ok row

-- rows of one table: a number is of one PUID and of at most eight rows, no sequence has too many slots, and there are not too many PUIDs and numbers
pub record AreRows (rows : List Row) : Type 0 where
  pub one_format : (x y : Row) → Contains rows x → Contains rows y → x.number ≡ y.number → x.puid ≡ y.puid
  pub few_sequences : (number : ℕ) → length (rows_of number rows) ≤ 8
  pub few_slots : All (λ row. slot_count row.sequence ≤ 65535) rows
  pub few_formats : length (formats_of rows) ≤ 1000
  pub few_signatures : length (numbers_of rows) ≤ 4000

-- behind a header, each record writes a row of one table, and the table is that of the rows
pub record IsTableOf (file : Records) (table : TableView) : Type 0 where
  pub header : List (List ℕ)
  pub records : Records
  pub cut : file ≡ header ∷ records
  pub is_header : is_signature_header header ≡ true
  pub rows : List Row
  pub write : WriteAll Writes 1 records rows
  pub are : AreRows rows
  pub gathers : table ≡ gathered rows

-- an earlier row gives the row's number to another PUID
abbrev pub IsOfTwo : List Row → Row → Type 0
IsOfTwo rows row = (x : Row) × Contains rows x × (x.number ≡ row.number) × (x.puid ≡ row.puid → ⊥)

-- eight earlier rows have the row's number
abbrev pub HasEight : List Row → Row → Type 0
HasEight rows row = 8 ≤ length (rows_of row.number rows)

-- the row's sequence has over 65,535 slots
abbrev pub HasTooManySlots : Row → Type 0
HasTooManySlots row = 65535 < slot_count row.sequence

-- the row is of the 1,001st PUID or of the 4,001st number
abbrev pub IsBeyond : List Row → Row → Type 0
IsBeyond rows row = (1000 < length (formats_of (rows ++ row ∷ []))) ⊎ (4000 < length (numbers_of (rows ++ row ∷ [])))

-- the fault of the n-th row behind these rows: the first of the four that it has
abbrev pub IsFaultOfRow : List Row → ℕ → Row → TableError → Type 0
IsFaultOfRow rows n row =
    FirstOf (IsOfTwo rows row) (error.SignatureOfTwo n)
    (FirstOf (HasEight rows row) (error.TooManySequences n)
    (FirstOf (HasTooManySlots row) (error.TooManySlots n) (λ e. IsBeyond rows row × (e ≡ error.TooManyFormats n))))

-- the fault of the n-th record behind these rows: it writes no row, or one with a fault
abbrev pub IsFaultAfter : List Row → ℕ → List (List ℕ) → TableError → Type 0
IsFaultAfter rows n fields fault = (row_of n fields ≡ Err fault) ⊎ ((row : Row) × (row_of n fields ≡ Ok row) × IsFaultOfRow rows n row fault)

-- behind a header, some record has this fault, and those before it write rows of one table
pub record HasFirstFault (file : Records) (fault : TableError) : Type 0 where
  pub header : List (List ℕ)
  pub earlier : Records
  pub fields : List (List ℕ)
  pub later : Records
  pub cut : file ≡ header ∷ (earlier ++ fields ∷ later)
  pub is_header : is_signature_header header ≡ true
  pub rows : List Row
  pub write : WriteAll Writes 1 earlier rows
  pub are : AreRows rows
  pub has : IsFaultAfter rows (1 + length earlier) fields fault

-- the file begins with the header
abbrev pub BeginsWithHeader : Records → Type 0
BeginsWithHeader file = (header : List (List ℕ)) × (records : Records) × (file ≡ header ∷ records) × (is_signature_header header ≡ true)

-- there is no header, or some record has the fault
abbrev pub IsFaultOf : Records → TableError → Type 0
IsFaultOf file fault = ((BeginsWithHeader file → ⊥) × (fault ≡ error.Header Signatures)) ⊎ HasFirstFault file fault
