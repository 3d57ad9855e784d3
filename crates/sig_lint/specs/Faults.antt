-- All faults of two files: the loader's judgement of each row, behind the rows that have none.
use Rattle.std.specs.Prelude.{ℕ, ◌+◌, Bool, true, false, List, [], ◌∷◌, ◌++◌, Option, Some, None, Result, Ok, is_ok, if◌then◌else◌}
use Rattle.sig_table.specs.declared.error.TableError.{TableError}
use Rattle.sig_table.specs.declared.error.TableError.TheVariants as error
use Rattle.sig_table.specs.declared.error.TableFile.TheVariants.{Signatures, Priorities}
use Rattle.sig_table.specs.declared.puid.Puid.{Puid}
use Rattle.sig_table.specs.Judging.{Records, passed}
use Rattle.sig_table.specs.Loading.{empty_table, is_priority_header, is_signature_header, with_pair, with_record}
use Rattle.sig_lint.specs.FaultViews.{FaultView}
use Rattle.sig_lint.specs.Fields.{priority_field, signature_field}
use Rattle.sig_lint.specs.Names.{formats_among, is_beyond, names_of}

-- what is told of a record
abbrev pub told : (List (List ℕ) → TableError → FaultView) → List (List ℕ) → Option TableError → List FaultView
told tell fields None = []
told tell fields (Some fault) = tell fields fault ∷ []

-- the faults of these records, each judged by its number and what those before it without a fault gave
unfoldable pub faults_from : {S : Type 0} → (List (List ℕ) → TableError → FaultView) → (ℕ → S → List (List ℕ) → Result S TableError) → ℕ → S → Records → List FaultView
faults_from tell judge n done [] = []
faults_from tell judge n done (fields ∷ later) = told tell fields (passed done (judge n done fields)).1 ++ faults_from tell judge (n + 1) (passed done (judge n done fields)).0 later

-- what these records give, those with a fault left out
unfoldable pub done_by : {S : Type 0} → (ℕ → S → List (List ℕ) → Result S TableError) → ℕ → S → Records → S
done_by judge n done [] = done
done_by judge n done (fields ∷ later) = done_by judge (n + 1) (passed done (judge n done fields)).0 later

-- the records that have no fault
unfoldable pub faultless : {S : Type 0} → (ℕ → S → List (List ℕ) → Result S TableError) → ℕ → S → Records → Records
faultless judge n done [] = []
faultless judge n done (fields ∷ later) =
    (if is_ok (judge n done fields) then fields ∷ [] else []) ++ faultless judge (n + 1) (passed done (judge n done fields)).0 later

-- a fault of a row of the signature file
abbrev pub row_fault : List (List ℕ) → TableError → FaultView
row_fault fields fault = record { fields = fields; error = fault; field = signature_field fields fault }

-- the faults of a signature file: behind a wrong header no row is judged
unfoldable pub signature_faults : Records → List FaultView
signature_faults [] = told row_fault [] (Some (error.Header Signatures))
signature_faults (header ∷ rows) = if is_signature_header header then faults_from row_fault with_record 1 empty_table rows else told row_fault header (Some (error.Header Signatures))

-- the pairs with that of a record: one of named formats for which no table has room is passed over
unfoldable pub with_named_pair : List Puid → ℕ → List (ℕ × ℕ) → List (List ℕ) → Result (List (ℕ × ℕ)) TableError
with_named_pair names n pairs fields = if is_beyond names fields then Ok pairs else with_pair (formats_among names) n pairs fields

-- a fault of a row of the priority file, among these names
abbrev pub pair_row_fault : List Puid → List (List ℕ) → TableError → FaultView
pair_row_fault names fields fault = record { fields = fields; error = fault; field = priority_field names fields fault }

-- the faults of a priority file, among the formats of these names
unfoldable pub priority_faults : List Puid → Records → List FaultView
priority_faults names [] = told (pair_row_fault names) [] (Some (error.Header Priorities))
priority_faults names (header ∷ rows) =
    if is_priority_header header then faults_from (pair_row_fault names) (with_named_pair names) 1 [] rows else told (pair_row_fault names) header (Some (error.Header Priorities))

-- the faults of both files: those of the signature file stand first
unfoldable pub lint_faults : Records → Records → List FaultView
lint_faults signatures priorities = signature_faults signatures ++ priority_faults (names_of signatures priorities) priorities

-- whether the fault is that of an unknown format
abbrev pub is_unknown : TableError → Bool
is_unknown (error.PriorityUnknown row) = true
is_unknown _ = false
