-- What is printed of a certificate.
use Rattle.std.specs.Prelude.{◌≡◌, ℕ, ◌/◌, ◌%◌, Bool, true, List, [], ◌∷◌, ◌++◌, codes, IfSome, Option, Result, Ok, Err, is_ok}
use Rattle.std.specs.Fmt.{decimal, digit_glyph}
use Rattle.sig_bits.specs.Bytes.{IsBytes}
use Rattle.sig_bits.specs.Device.{Adds}
use Rattle.sig_cert.specs.Verdicts.{Verdict}
use Rattle.sig_cert.specs.declared.error.CheckError.{CheckError}
use Rattle.sig_cert.specs.declared.error.CheckError.TheVariants as error
use Rattle.sig_table.specs.Views.{TableView}

-- a byte as two capital hexadecimal digits
abbrev pub byte_text : ℕ → List ℕ
byte_text byte = digit_glyph true (byte / 16) ∷ digit_glyph true (byte % 16) ∷ []

-- where a table of a pair is, and where one of its rows
abbrev pub table_text : ℕ → ℕ → List ℕ
table_text pair table = codes " pair " ++ decimal pair ++ codes " table " ++ decimal table

abbrev pub row_text : ℕ → ℕ → ℕ → List ℕ
row_text pair table row = table_text pair table ++ codes " row " ++ decimal row

-- why a certificate is refused, and where it is
abbrev pub refusal_text : CheckError → List ℕ
refusal_text error.Magic = codes "C1 magic"
refusal_text error.Version = codes "C2 version"
refusal_text error.PairCount = codes "C3 pair count"
refusal_text (error.Kind pair) = codes "C4 kind pair " ++ decimal pair
refusal_text (error.Blockers pair table) = codes "C5 blockers" ++ table_text pair table
refusal_text (error.RowForm pair table row) = codes "C6 row form" ++ row_text pair table row
refusal_text (error.RowOrder pair table row) = codes "C7 row order" ++ row_text pair table row
refusal_text (error.NoStart pair table) = codes "C8 no start" ++ table_text pair table
refusal_text (error.Bad pair table row) = codes "C9 bad" ++ row_text pair table row
refusal_text (error.NotClosed pair table row byte) = codes "C10 not closed" ++ row_text pair table row ++ codes " byte " ++ byte_text byte
refusal_text error.Trailing = codes "C11 trailing"
refusal_text error.Truncated = codes "C12 truncated"
refusal_text error.OutOfMemory = codes "C13 out of memory"

-- its line
abbrev pub refusal_line : CheckError → List ℕ
refusal_line fault = codes "refused " ++ refusal_text fault ++ 10 ∷ []

-- the line of a verdict
abbrev pub verdict_line : Result Unit CheckError → List ℕ
verdict_line (Ok accepted) = codes "accepted" ++ 10 ∷ []
verdict_line (Err fault) = refusal_line fault

-- what is written grows by the line of the verdict on the certificate, which accepts it or not
pub record AddsVerdict (is_accepted : Bool) (table : TableView) (certificate : List ℕ) (before after : Option (List ℕ)) : Type 0 where
  pub verdict : Result Unit CheckError
  pub is_of_it : Verdict table certificate verdict
  pub accepts : is_ok verdict ≡ is_accepted
  pub adds : Adds before (verdict_line verdict) after

-- the certificate is some bytes: those to come, where they are known
pub record AddsVerdictOfSome (is_accepted : Bool) (table : TableView) (to_come before after : Option (List ℕ)) : Type 0 where
  pub certificate : List ℕ
  pub bytes : IsBytes certificate
  pub is_to_come : IfSome to_come (λ bytes. certificate ≡ bytes)
  pub adds_verdict : AddsVerdict is_accepted table certificate before after
