-- The faults of both files, and the table of them.
use Rattle.std.proofs.Common.{◌≡◌, ℕ, ◌≤◌, List, [], ◌∷◌, length, sym, ap, refl, inl, inr, Result, Ok, Err}
use Rattle.std.specs.Prelude.{◌↔◌, IfOk, IsOk}
use Rattle.std.proofs.lemmas.Bool.{cases_Bool}
use Rattle.sig_table.proofs.Exports.{answered, is_table_of}
use Rattle.sig_table.specs.declared.error.TableError.{TableError}
use Rattle.sig_table.specs.declared.puid.Puid.{Puid}
use Rattle.sig_table.specs.Views.{TableView}
use Rattle.sig_table.specs.Loading.{empty_table, is_priority_header, is_signature_header, pairs_of, signatures_of, table_of, with_pair, with_record}
use Rattle.sig_lint.specs.FaultViews.{FaultView}
use Rattle.sig_lint.specs.Faults.{lint_faults, pair_row_fault, priority_faults, row_fault, signature_faults, with_named_pair}
use Rattle.sig_lint.specs.Names.{names_of}
use Rattle.sig_lint.proofs.FaultLemmas.{Agrees, Agrees-err, Agrees-map, Agrees-ok, agrees}
use Rattle.sig_lint.proofs.NameLemmas.{judged-formats, with_named_pair-few}

pub agrees-signatures : (file : List (List (List ℕ))) → Agrees (signature_faults file) (signatures_of file)
unfolding signature_faults signatures_of
agrees-signatures [] = refl
agrees-signatures (header ∷ rows) = elim (cases_Bool (is_signature_header header)) [
  | inl is ↦ rw is (agrees row_fault with_record (λ fields e. refl) rows 1 empty_table)
  | inr other ↦ rw other refl
]

-- among few formats each pair is judged as the loader judges it
pub named-is : (names : List Puid) → length names ≤ 1000 → with_named_pair names ≡ with_pair names
named-is names few = λ i. λ n pairs fields. with_named_pair-few names few n pairs fields i

pub agrees-priorities : (names : List Puid) (file : List (List (List ℕ))) → length names ≤ 1000 → Agrees (priority_faults names file) (pairs_of names file)
unfolding priority_faults pairs_of
agrees-priorities names [] few = refl
agrees-priorities names (header ∷ rows) few = elim (cases_Bool (is_priority_header header)) [
  | inl is ↦ rw (is, named-is names few) (agrees (pair_row_fault names) (with_pair names) (λ fields e. refl) rows 1 [])
  | inr other ↦ rw other refl
]

-- a signature file that loads names its formats
pub names_of-loaded : (signatures priorities : List (List (List ℕ))) (table : TableView) → signatures_of signatures ≡ Ok table
    → names_of signatures priorities ≡ table.formats
unfolding signatures_of names_of
names_of-loaded [] priorities table read = absurd (cc read)
names_of-loaded (header ∷ rows) priorities table read = elim (cases_Bool (is_signature_header header)) [
  | inl is ↦ rw is (sym (judged-formats rows 1 empty_table table (rw is at read)))
  | inr other ↦ absurd (cc (rw other at read))
]

pub formats-few : (file : List (List (List ℕ))) (table : TableView) → signatures_of file ≡ Ok table → length table.formats ≤ 1000
formats-few file table read =
    let is = is_table_of file table read in
    rw (ap (λ (t : TableView). t.formats) is.gathers) is.are.few_formats

pub lint_agrees : (signatures priorities : List (List (List ℕ))) → Agrees (lint_faults signatures priorities) (table_of signatures priorities)
unfolding lint_faults table_of
lint_agrees signatures priorities = elim (answered (signatures_of signatures)) [
  | inl table ↦
      let none : signature_faults signatures ≡ [] = Agrees-ok (signature_faults signatures) (signatures_of signatures) table.0 (agrees-signatures signatures)
      table.1 in
      rw (none, names_of-loaded signatures priorities table.0 table.1, table.1)
      (Agrees-map (priority_faults table.0.formats priorities) (pairs_of table.0.formats priorities) (λ pairs. record table.0 { priorities = pairs })
      (agrees-priorities table.0.formats priorities (formats-few signatures table.0 table.1)))
  | inr fault ↦ Agrees-err (signature_faults signatures) (priority_faults (names_of signatures priorities) priorities) (signatures_of signatures) _ fault.0
      (agrees-signatures signatures) fault.1 (rw fault.1 refl)
]

pub IfOk-map : {A E : Type 0} {P Q : A → Type 0} (r : Result A E) → ((x : A) → P x → Q x) → IfOk r P → IfOk r Q
IfOk-map (Ok x) f h = f x h
IfOk-map (Err e) f h = h

-- the first of these faults is the refusal
pub first_is : {A : Type 0} (told faults : List FaultView) (r : Result A TableError) → Agrees faults r → told ≡ faults
    → (fault : FaultView) (later : List FaultView) → told ≡ fault ∷ later → r ≡ Err fault.error
first_is told [] r h is fault later some = absurd (cc (is, some))
first_is told (first ∷ others) r h is fault later some = let same : first ≡ fault = cc (is, some) in rw (← same) h

pub none_is : {A : Type 0} (told faults : List FaultView) (r : Result A TableError) → Agrees faults r → told ≡ faults → ((told ≡ []) ↔ IsOk r)
none_is told [] r h is = (λ e. rw h.1 refl, λ ok. is)
none_is told (first ∷ others) r h is = (λ none. absurd (cc (is, none)), λ ok. absurd (cc (rw h at ok)))
