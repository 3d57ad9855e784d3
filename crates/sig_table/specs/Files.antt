-- A file judged behind its header, and the pairs that one gives.
use Rattle.std.specs.Prelude.{ℕ, Bool, if◌then◌else◌, List, [], ◌∷◌, Result, Ok, Err}
use Rattle.sig_table.specs.declared.error.TableError.{TableError}
use Rattle.sig_table.specs.declared.error.TableError.TheVariants as error
use Rattle.sig_table.specs.declared.error.TableFile.{TableFile}
use Rattle.sig_table.specs.declared.error.TableFile.TheVariants.{Signatures, Priorities}
use Rattle.sig_table.specs.declared.puid.Puid.{Puid}
use Rattle.sig_table.specs.Judging.{◌>>=◌, Records, judged}
use Rattle.sig_table.specs.Loading.{is_priority_header, is_signature_header, with_pair}

-- the first record of the file
abbrev pub is_header : TableFile → List (List ℕ) → Bool
is_header Signatures fields = is_signature_header fields
is_header Priorities fields = is_priority_header fields

-- what the records behind the header give, or the first fault
unfoldable pub file_judged : {S : Type 0} → TableFile → (ℕ → S → List (List ℕ) → Result S TableError) → S → Records → Result S TableError
file_judged file judge start [] = Err (error.Header file)
file_judged file judge start (header ∷ rows) = if is_header file header then judged judge 1 start rows else Err (error.Header file)

-- formats, and pairs of them
pub record PairRowsView : Type 0 where
  pub formats : List Puid
  pub pairs : List (ℕ × ℕ)

-- the pairs with that of a record
abbrev pub with_pair_row : ℕ → PairRowsView → List (List ℕ) → Result PairRowsView TableError
with_pair_row n rows fields = with_pair rows.formats n rows.pairs fields >>= (λ pairs. Ok (record rows { pairs = pairs }))
