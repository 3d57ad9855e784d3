-- The field that is at fault.
use Rattle.std.specs.Prelude.{ℕ, ◌==◌, List, length, codes, is_some, if◌then◌else◌}
use Rattle.sig_table.specs.declared.error.TableError.{TableError}
use Rattle.sig_table.specs.declared.error.TableError.TheVariants as error
use Rattle.sig_table.specs.declared.puid.Puid.{Puid}
use Rattle.sig_table.specs.Puids.{puid_of}
use Rattle.sig_table.specs.Rows.{is_word, offset_of, text_at}
use Rattle.sig_lint.specs.declared.fields.Field.{Field}
use Rattle.sig_lint.specs.declared.fields.Field.TheVariants as field
use Rattle.sig_lint.specs.Names.{is_named}

-- the offset or the greatest one: the first that is no offset, or that stands where there is to be none
abbrev pub offset_field : List ℕ → List ℕ → Field
offset_field word offset =
    if is_word word (codes "Variable") then (if length offset == 0 then field.MaxOffset else field.Offset)
    else (if is_some (offset_of offset) then field.MaxOffset else field.Offset)

-- the field of a row of the signature file: the whole row where no field alone is at fault
unfoldable pub signature_field : List (List ℕ) → TableError → Field
signature_field fields (error.Puid file row) = field.Puid
signature_field fields (error.SignatureNumber row) = field.Signature
signature_field fields (error.Position row) = field.Position
signature_field fields (error.Offset row) = offset_field (text_at fields 2) (text_at fields 3)
signature_field fields (error.Expression row fault) = field.Expression
signature_field fields (error.SignatureOfTwo row) = field.Signature
signature_field fields (error.TooManySequences row) = field.Signature
signature_field fields (error.TooManySlots row) = field.Expression
signature_field fields _ = field.Record

-- the field of a row of the priority file, among these names
unfoldable pub priority_field : List Puid → List (List ℕ) → TableError → Field
priority_field names fields (error.Puid file row) = if is_some (puid_of (text_at fields 0)) then field.Lower else field.Higher
priority_field names fields (error.PriorityUnknown row) = if is_named names (text_at fields 0) then field.Lower else field.Higher
priority_field names fields _ = field.Record
