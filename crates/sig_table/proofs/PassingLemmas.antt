-- A record judged where the caller goes on.
use Rattle.std.proofs.Common.{◌≡◌, ℕ, List, [], ◌∷◌, ◌++◌, sym, ap, refl, Result, Ok, Err, Option, Some, None}
use Rattle.csv.specs.Records.{field_at}
use Rattle.indexmap.specs.IndexSet.{insert_key}
use Rattle.sig_table.specs.declared.error.TableError.{TableError}
use Rattle.sig_table.specs.declared.puid.Puid.{Puid}
use Rattle.sig_table.specs.declared.row.Row.{Row}
use Rattle.sig_table.specs.Views.{TableView}
use Rattle.sig_table.specs.Judging.{◌>>=◌, passed, unless}
use Rattle.sig_table.specs.Loading.{fault_in, pair_fault, pair_of, with_pair, with_record, with_row}
use Rattle.sig_table.specs.Puids.{puid_eq, puid_of}
use Rattle.sig_table.specs.Rows.{row_of, text_at}
use Rattle.sig_table.proofs.LoadLemmas.{with_record-unread}
use Rattle.sig_table.proofs.PairLemmas.{with_pair-unread}
use Rattle.sig_table.proofs.PuidLemmas.{puid_of-puid_text}
use Rattle.sig_table.proofs.RowTextLemmas.{row_is_spelled}

module _ (n : ℕ) (t : TableView) (fields : List (List ℕ)) where
  pub passed-row : (row : Row) → row_of n fields ≡ Ok row → passed t (unless (fault_in t n row) (Ok (with_row t row))) ≡ passed t (with_record n t fields)
  unfolding with_record
  passed-row row read = rw read refl

  pub passed-unread : (e : TableError) → row_of n fields ≡ Err e → let told : TableView × Option TableError = (t, Some e) in
      told ≡ passed t (with_record n t fields)
  passed-unread e read = rw (with_record-unread n t fields e read) refl

module _ (formats : List Puid) (n : ℕ) (pairs : List (ℕ × ℕ)) (fields : List (List ℕ)) where
  pub passed-pair : (pair : ℕ × ℕ) → pair_of formats n fields ≡ Ok pair
      → passed pairs (unless (pair_fault pairs n pair) (Ok (pairs ++ pair ∷ []))) ≡ passed pairs (with_pair formats n pairs fields)
  unfolding with_pair
  passed-pair pair read = rw read refl

  pub passed-unread_pair : (e : TableError) → pair_of formats n fields ≡ Err e → let told : List (ℕ × ℕ) × Option TableError = (pairs, Some e) in
      told ≡ passed pairs (with_pair formats n pairs fields)
  passed-unread_pair e read = rw (with_pair-unread formats n pairs fields e read) refl

-- what a value is read on from
pub binds : {A B : Type 0} (r : Result A TableError) (f : A → Result B TableError) (y : B) → r >>= f ≡ Ok y → (x : A) × (r ≡ Ok x) × (f x ≡ Ok y)
binds (Ok x) f y h = (x, refl, h)
binds (Err e) f y h = absurd (cc h)

unless-is : {A : Type 0} (o : Option TableError) (x y : A) → unless o (Ok x) ≡ Ok y → x ≡ y
unless-is None x y h = cc h
unless-is (Some e) x y h = absurd (cc h)

-- the PUID of a row is that of its first text
row_of-puid : (n : ℕ) (fields : List (List ℕ)) (row : Row) → row_of n fields ≡ Ok row → puid_of (text_at fields 0) ≡ Some row.puid
unfolding field_at
row_of-puid n fields row read =
    let is = row_is_spelled n fields row read in
    rw is.cut (puid_of-puid_text row.puid.registry row.puid.number is.puid.0 is.puid.1)

-- a record that is taken names a format, which is among those behind it
pub with_record-puid : (n : ℕ) (t more : TableView) (fields : List (List ℕ)) → with_record n t fields ≡ Ok more → (puid : Puid)
    × (puid_of (text_at fields 0) ≡ Some puid) × (more.formats ≡ insert_key puid_eq t.formats puid)
unfolding with_record with_row
with_record-puid n t more fields taken =
    let row = binds (row_of n fields) _ more taken in
    let is : with_row t row.0 ≡ more = unless-is (fault_in t n row.0) _ more row.2 in
    (row.0.puid, row_of-puid n fields row.0 row.1, sym (ap (λ (x : TableView). x.formats) is))
