-- Sets of names, and the names of a table that loads.
use Rattle.std.proofs.Common.{◌≡◌, ℕ, ◌+◌, ◌<◌, ◌≤◌, ◌&&◌, Bool, true, false, nat_eq, List, [], ◌∷◌, ◌++◌, length, take, drop, append-nil, append_assoc, sym}
use Rattle.std.proofs.Common.{ap, refl, arith, inl, inr, Ok, Option, Some, None}
use Rattle.std.specs.Prelude.{fold}
use Rattle.std.specs.List.{list_any}
use Rattle.std.proofs.Math.Bool.{and-false}
use Rattle.std.proofs.lemmas.Bool.{cases_Bool, cases_lt}
use Rattle.std.proofs.lemmas.List.{drop_all, drop_at, take_all, take_at}
use Rattle.std.proofs.lemmas.List.Folds.{list_any-append}
use Rattle.indexmap.specs.IndexSet.{insert_key}
use Rattle.sig_table.proofs.Exports.{binds, with_record-puid}
use Rattle.sig_table.specs.declared.puid.Puid.{Puid}
use Rattle.sig_table.specs.Views.{TableView}
use Rattle.sig_table.specs.Judging.{judged}
use Rattle.sig_table.specs.Loading.{with_pair, with_record}
use Rattle.sig_table.specs.Puids.{puid_of}
use Rattle.sig_table.specs.Rows.{text_at}
use Rattle.sig_lint.specs.Faults.{with_named_pair}
use Rattle.sig_lint.specs.Names.{is_among, is_beyond, is_named, with_row_name}

module _ {A : Type 0} (known beyond : List A) (few : length known ≤ 1000) (full : length known < 1000 → beyond ≡ []) where
  pub take-known : take 1000 (known ++ beyond) ≡ known
  take-known = elim (cases_lt (length known) 1000) [
    | inl less ↦ rw (full less, append-nil known) (take_all 1000 known few)
    | inr ge ↦ take_at known beyond 1000 (omega arith)
  ]

  pub drop-known : drop 1000 (known ++ beyond) ≡ beyond
  drop-known = elim (cases_lt (length known) 1000) [
    | inl less ↦ rw (full less, append-nil known) (drop_all 1000 known few)
    | inr ge ↦ drop_at known beyond 1000 (omega arith)
  ]

-- a key of either list, or of none
module _ {A : Type 0} (eq : A → A → Bool) (known beyond : List A) (x : A) where
  pub insert-known : list_any (eq x) known ≡ true → known ++ beyond ≡ insert_key eq (known ++ beyond) x
  insert-known there = rw (list_any-append (eq x) known beyond, there) refl

  pub insert-first : list_any (eq x) known ≡ false → beyond ≡ [] → insert_key eq known x ++ beyond ≡ insert_key eq (known ++ beyond) x
  insert-first new none = rw (none, append-nil, append-nil) refl

  pub insert-beyond : list_any (eq x) known ≡ false → known ++ insert_key eq beyond x ≡ insert_key eq (known ++ beyond) x
  insert-beyond new = rw (list_any-append (eq x) known beyond, new) (elim (cases_Bool (list_any (eq x) beyond)) [
    | inl there ↦ rw there refl
    | inr also ↦ rw also (sym (append_assoc known beyond (x ∷ [])))
  ])

-- nothing is named by no name
none_named : (o : Option Puid) → is_among [] o ≡ false
none_named None = refl
none_named (Some p) = refl

-- a thousand names or fewer have none beyond
pub is_beyond-few : (names : List Puid) (fields : List (List ℕ)) → length names ≤ 1000 → is_beyond names fields ≡ false
unfolding is_beyond
is_beyond-few names fields few =
    let none : drop 1000 names ≡ [] = drop_all 1000 names few in
    rw (none, none_named (puid_of (text_at fields 0)), none_named (puid_of (text_at fields 1)))
    (rw (and-false (is_named names (text_at fields 0) && is_named names (text_at fields 1))) (and-false (nat_eq (length fields) 2)))

pub with_named_pair-few : (names : List Puid) → length names ≤ 1000 → (n : ℕ) (pairs : List (ℕ × ℕ)) (fields : List (List ℕ))
    → with_named_pair names n pairs fields ≡ with_pair names n pairs fields
unfolding with_named_pair
with_named_pair-few names few n pairs fields = rw (is_beyond-few names fields few, take_all 1000 names few) refl

pub with_record-formats : (n : ℕ) (t more : TableView) (fields : List (List ℕ)) → with_record n t fields ≡ Ok more
    → more.formats ≡ with_row_name t.formats fields
with_record-formats n t more fields taken = let p = with_record-puid n t more fields taken in rw p.1 p.2

-- the formats of rows that are all taken are those that the rows name
pub judged-formats : (rows : List (List (List ℕ))) (n : ℕ) (t table : TableView) → judged with_record n t rows ≡ Ok table
    → table.formats ≡ fold with_row_name t.formats rows
unfolding judged
judged-formats [] n t table h = sym (ap (λ (x : TableView). x.formats) (let same : t ≡ table = cc h in same))
judged-formats (fields ∷ later) n t table h =
    let more = binds (with_record n t fields) _ table h in
    rw (← with_record-formats n t more.0 fields more.1) (judged-formats later (n + 1) more.0 table more.2)
