-- Equal rows of two formats.
use Rattle.std.specs.Prelude.{ℕ, zero, suc, ◌&&◌, Bool, List, [], ◌∷◌, ◌++◌, codes, fold, length, map, nat_eq, Option, Some, None, slice_get, if◌then◌else◌}
use Rattle.std.specs.Fmt.{decimal}
use Rattle.std.specs.Map.{lookup}
use Rattle.indexmap.specs.IndexSet.{insert_key}
use Rattle.sig_expr.specs.Canon.{canon}
use Rattle.sig_table.specs.Rows.{is_word}
use Rattle.sig_table.specs.Views.{SequenceView, SignatureView, TableView}
use Rattle.sig_table.specs.declared.position.Position.{Position}
use Rattle.sig_table.specs.declared.position.Position.TheVariants as position
use Rattle.sig_lint.specs.declared.row_owners.Owner.{Owner}

-- the canonical text of a row behind the signature's number: its position, and its expression
abbrev pub position_text : Position → List ℕ
position_text (position.Bof min max) = codes "BOF" ++ codes "," ++ decimal min ++ codes "," ++ decimal max ++ codes ","
position_text (position.Eof min max) = codes "EOF" ++ codes "," ++ decimal min ++ codes "," ++ decimal max ++ codes ","
position_text position.Variable = codes "Variable,,,"

abbrev pub row_text : SequenceView → List ℕ
row_text sequence = position_text sequence.position ++ canon sequence.items

-- a row: its text, and the signature and the format that it is of
abbrev pub placed : Owner → SequenceView → List ℕ × Owner
placed owner sequence = (row_text sequence, owner)

-- the rows of the first n signatures, in their order
abbrev pub rows_at : ℕ → Option SignatureView → List (List ℕ × Owner)
rows_at place None = []
rows_at place (Some s) = map (placed (record { signature = record { 0 = place }; format = record { 0 = s.format } })) s.sequences

unfoldable pub rows_before : List SignatureView → ℕ → List (List ℕ × Owner)
rows_before signatures zero = []
rows_before signatures (suc n) = rows_before signatures n ++ rows_at n (slice_get signatures n)

-- the first row of each text so far, and the pairs of signatures that are told
pub record RowsView : Type 0 where
  pub firsts : List (List ℕ × Owner)
  pub found : List (ℕ × ℕ)

abbrev pub no_row : RowsView
no_row = record { firsts = []; found = [] }

-- whose the first row of this text is
abbrev pub first_of : List (List ℕ × Owner) → List ℕ → Option Owner
first_of firsts text = lookup (λ t. is_word text t) firsts

-- whether two pairs are one
abbrev pub pair_eq : ℕ × ℕ → ℕ × ℕ → Bool
pair_eq a b = nat_eq a.0 b.0 && nat_eq a.1 b.1

-- the pairs with the signature of a row and that of the first one that is equal to it, once, if they are of two formats
abbrev pub with_told : List (ℕ × ℕ) → Owner → Owner → List (ℕ × ℕ)
with_told found owner first = if nat_eq first.format.0 owner.format.0 then found else insert_key pair_eq found (owner.signature.0, first.signature.0)

-- the rows with one more, where an equal one is there or not
abbrev pub with_first : RowsView → List ℕ × Owner → Option Owner → RowsView
with_first rows row None = record rows { firsts = rows.firsts ++ row ∷ [] }
with_first rows row (Some first) = record rows { found = with_told rows.found row.1 first }

unfoldable pub with_row : RowsView → List ℕ × Owner → RowsView
with_row rows row = with_first rows row (first_of rows.firsts row.0)

-- the signatures of equal rows: each that has a row of another format, which stands earlier, with the signature of the first such row
unfoldable pub equal_rows : TableView → List (ℕ × ℕ)
equal_rows table = (fold with_row no_row (rows_before table.signatures (length table.signatures))).found
