-- What is printed of what a search finds, and what is written to the file that it names.
use Rattle.std.specs.Prelude.{◌≡◌, ℕ, ◌<◌, ⊤, Bool, true, false, List, [], ◌∷◌, ◌++◌, codes, if◌then◌else◌, length, nat_lt, IfSome, Option, Some, None, slice_get}
use Rattle.std.specs.Fmt.{decimal}
use Rattle.hex.specs.Hex.{encode_lower}
use Rattle.sig_cert.specs.Deciding.{AreFormats}
use Rattle.sig_product.specs.Products.{AreAllBlockers}
use Rattle.sig_table.specs.Views.{SignatureView, TableView}
use Rattle.sig_table.specs.declared.ids.SigId.{SigId}
use Rattle.sig_engines.specs.Texts.{signature_text}
use Rattle.sig_engines.specs.Progress.{AddsIf}
use Rattle.sig_engines.specs.Witnessed.{pair_text}
use Rattle.sig_engines.specs.Stores.{CannotMake, Holding}
use Rattle.sig_engines.specs.declared.error.FileFault.{FileFault}
use Rattle.sig_engines.specs.declared.error.FileFault.TheVariants.{CannotOpen, Run}
use Rattle.sig_engines.specs.declared.progress.Things.TheVariants.{Products}
use Rattle.sig_engines.specs.declared.error.RunError.TheVariants.{OutOfMemory, Read, Write}
use Rattle.sig_bits.specs.Device.{Adds}
use Rattle.sig_find.specs.Answers.{IsFound}
use Rattle.sig_find.specs.declared.found.Found.{Found}
use Rattle.sig_find.specs.declared.found.Found.TheVariants.{Certificate, GaveUp, Witness}

-- both are signatures of the table
abbrev pub AreSignatures : TableView → SigId → SigId → Type 0
AreSignatures table s t = (s.0 < length table.signatures) × (t.0 < length table.signatures)

-- what was found names formats or signatures of the table
abbrev pub IsKnown : TableView → Found → Type 0
IsKnown table (Certificate certificate) = ⊤
IsKnown table (Witness file a b) = AreFormats table (a, b)
IsKnown table (GaveUp s t) = AreSignatures table s t

-- two numbers of signatures with a space between them, and a line feed; nothing where one of them is not in the table
abbrev pub two_numbers : Option SignatureView → Option SignatureView → List ℕ
two_numbers (Some s) (Some t) = decimal s.number ++ 32 ∷ decimal t.number ++ 10 ∷ []
two_numbers (Some s) None = []
two_numbers None t = []

-- the numbers of two signatures
abbrev pub numbers_text : TableView → SigId → SigId → List ℕ
numbers_text table s t = two_numbers (slice_get table.signatures s.0) (slice_get table.signatures t.0)

-- the line of what was found
abbrev pub found_line : TableView → Found → List ℕ
found_line table (Certificate certificate) = codes "decided" ++ 10 ∷ []
found_line table (Witness file a b) = codes "witness " ++ pair_text table (a, b)
found_line table (GaveUp s t) = codes "gave up " ++ numbers_text table s t

-- the bytes of a certificate or of a witness
abbrev pub found_bytes : Found → Option (List ℕ)
found_bytes (Certificate certificate) = Some certificate.items
found_bytes (Witness file a b) = Some file.items
found_bytes (GaveUp s t) = None

-- with `--hex` the bytes in lower case hexadecimal are a second line
abbrev pub hex_line : Bool → Option (List ℕ) → List ℕ
hex_line true (Some bytes) = encode_lower bytes ++ 10 ∷ []
hex_line true None = []
hex_line false bytes = []

-- all lines of what was found
abbrev pub found_text : Bool → TableView → Found → List ℕ
found_text hex table found = found_line table found ++ hex_line hex (found_bytes found)

-- a search that gave up is a no
abbrev pub is_answered : Found → Bool
is_answered (Certificate certificate) = true
is_answered (Witness file a b) = true
is_answered (GaveUp s t) = false

-- what is written grows by all lines of what is found of a table within the budget
pub record AddsFound (is_yes hex : Bool) (table : TableView) (budget : ℕ) (before after : Option (List ℕ)) : Type 0 where
  pub found : Found
  pub is_found : IsFound table budget found
  pub is : is_yes ≡ is_answered found
  pub adds : Adds before (found_text hex table found) after

-- what is written grows by the lines of what is found, and the bytes of just that, where it has any, are kept
pub record KeepsFound (IsKept : List ℕ → Type 0) (is_yes hex : Bool) (table : TableView) (budget : ℕ) (before after : Option (List ℕ)) : Type 0 where
  pub adds : AddsFound is_yes hex table budget before after
  pub kept : IfSome (found_bytes adds.found) IsKept

-- more signatures outrank one of the two than a product can have
abbrev pub outranked_line : TableView → SigId → SigId → List ℕ
outranked_line table s t = codes "over 64 signatures outrank " ++ signature_text table s.0 ++ codes " or " ++ signature_text table t.0 ++ codes ": see conflicts" ++ 10 ∷ []

-- there are more rows than the budget
abbrev pub budget_line : ℕ → List ℕ
budget_line budget = codes "more than " ++ decimal budget ++ codes " rows" ++ 10 ∷ []

-- why a search gave up on two signatures that so many outrank
abbrev pub reason_line : TableView → ℕ → SigId → SigId → ℕ → List ℕ
reason_line table budget s t blockers = if nat_lt 64 blockers then outranked_line table s t else budget_line budget

-- it is the line for all that outrank one of the two
pub record IsReasonFor (table : TableView) (budget : ℕ) (s t : SigId) (reason : List ℕ) : Type 0 where
  pub blockers : List ℕ
  pub are_all : AreAllBlockers table s.0 t.0 blockers
  pub is : reason ≡ reason_line table budget s t (length blockers)

-- nothing where the search did not give up
abbrev pub IsReason : TableView → ℕ → Found → List ℕ → Type 0
IsReason table budget (Certificate certificate) reason = reason ≡ []
IsReason table budget (Witness file a b) reason = reason ≡ []
IsReason table budget (GaveUp s t) reason = IsReasonFor table budget s t reason

-- the search gave up on two signatures: their line is written, and the error output grows by the progress, where it is asked for, and by why
pub record TellsWhy (progress hex : Bool) (table : TableView) (budget : ℕ) (before after err_before err_after : Option (List ℕ)) : Type 0 where
  pub s : SigId
  pub t : SigId
  pub gave_up : IsFound table budget (GaveUp s t)
  pub adds : Adds before (found_text hex table (GaveUp s t)) after
  pub mid : Option (List ℕ)
  pub shows : AddsIf progress Products err_before mid
  pub reason : List ℕ
  pub is_reason : IsReasonFor table budget s t reason
  pub tells : Adds mid reason err_after

-- the file for what is found can't be made, a write failed, or memory ran out
abbrev pub IsFindFault : Holding → List ℕ → FileFault → Type 0
IsFindFault held name CannotOpen = CannotMake held name
IsFindFault held name (Run Read) = ⊥
IsFindFault held name (Run Write) = ⊤
IsFindFault held name (Run OutOfMemory) = ⊤
