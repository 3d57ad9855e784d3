-- The table of the records of a table is that table.
use Rattle.std.proofs.Common.{◌≡◌, ℕ, ◌+◌, ◌<◌, ◌≤◌, Bool, true, false, nat_eq, nat_le, nat_lt, List, [], ◌∷◌, ◌++◌, length, map, take, sym, ap, subst}
use Rattle.std.proofs.Common.{append_assoc, eq-eqb, ◌∙◌, refl, arith, rules, tests, length-append, inl, inr, Some, None, Ok, Result, Err}
use Rattle.std.specs.Prelude.{find, All, Contains}
use Rattle.std.specs.List.{flat_map, list_any}
use Rattle.std.proofs.lemmas.Bool.{cases_Bool, eqb-true}
use Rattle.std.proofs.lemmas.List.{append-nil, take_all}
use Rattle.std.proofs.lemmas.List.Elements.{All-contains, All-head, All-tail}
use Rattle.csv.specs.Records.{field_at}
use Rattle.sig_table.proofs.FormatsAgainLemmas.{Contains-slice_get, Contains-there, Met, Turn, all_met, slice_get-within, turn}
use Rattle.sig_table.proofs.PairsAgainLemmas.{pairs_again}
use Rattle.sig_table.proofs.RecordsAgainLemmas.{records_of-priority_csv, records_of-signature_csv}
use Rattle.sig_table.proofs.RowAgainLemmas.{row_for, row_of-sequence_record}
use Rattle.sig_table.specs.Canonical.{name_of, named, priority_csv, records_of_signature, sequence_record, signature_csv, signature_header}
use Rattle.sig_table.specs.declared.error.TableError.{TableError}
use Rattle.sig_table.specs.declared.puid.Puid.{Puid}
use Rattle.sig_table.specs.declared.row.Row.{Row}
use Rattle.sig_table.specs.Views.{SequenceView, SignatureView, TableView}
use Rattle.sig_table.specs.Judging.{◌>>=◌, Records, judged}
use Rattle.sig_table.specs.Loading.{fault_in, grown, is_signature_header, pairs_of, records_of, signatures_of, table_from, table_of, with_row, with_record}
use Rattle.sig_table.specs.Puids.{puid_text}
use Rattle.sig_table.specs.Ranked.{ranked}
use Rattle.sig_table.specs.Rows.{row_of}
use Rattle.sig_table.specs.Slots.{slot_count}
use Rattle.sig_table.specs.Tables.{AllDifferent, HasAllSignatures, IsNumber, IsSequence, IsSignature, IsTable}

-- whether a signature has the number
abbrev is_of : ℕ → SignatureView → Bool
is_of number s = nat_eq number s.number

-- a table of these formats and signatures, with no priority
abbrev table_with : List Puid → List SignatureView → TableView
table_with formats signatures = record { formats = formats; signatures = signatures; priorities = [] }

-- a signature
abbrev signature : ℕ → ℕ → List SequenceView → SignatureView
signature format number sequences = record { format = format; number = number; sequences = sequences }

-- the number of a signature in the midst is among the numbers
Contains-middle : (done later : List SignatureView) (s : SignatureView) → Contains (map (λ x. x.number) (done ++ s ∷ later)) s.number
Contains-middle [] later s = (0, omega arith, refl)
Contains-middle (x ∷ done) later s = Contains-there x.number (map (λ y. y.number) (done ++ s ∷ later)) s.number (Contains-middle done later s)

-- where all numbers differ, no earlier signature has the number
is_new : (done later : List SignatureView) (s : SignatureView) → AllDifferent (map (λ x. x.number) (done ++ s ∷ later)) → list_any (is_of s.number) done ≡ false
is_new [] later s d = refl
is_new (x ∷ done) later s d = elim (cases_Bool (nat_eq s.number x.number)) [
  | inl t ↦ absurd (d.0 (subst (Contains (map (λ y. y.number) (done ++ s ∷ later))) (eqb-true s.number x.number t) (Contains-middle done later s)))
  | inr e ↦ rw e (is_new done later s d.1)
]

-- a number that no signature has is not found
found_none : (number : ℕ) (done : List SignatureView) → list_any (is_of number) done ≡ false → find (is_of number) done ≡ None
found_none number [] new = refl
found_none number (x ∷ done) new = elim (cases_Bool (nat_eq number x.number)) [
  | inl t ↦ absurd (cc (rw t at new))
  | inr e ↦ rw e (found_none number done (rw e at new))
]

module _ (format number : ℕ) (sequences : List SequenceView) where
  -- the last signature is found by its number
  found_last : (done : List SignatureView) → list_any (is_of number) done ≡ false
      → find (is_of number) (done ++ signature format number sequences ∷ []) ≡ Some (signature format number sequences)
  found_last [] new = rw (eq-eqb number number refl) refl
  found_last (x ∷ done) new = elim (cases_Bool (nat_eq number x.number)) [
    | inl t ↦ absurd (cc (rw t at new))
    | inr e ↦ rw e (found_last done (rw e at new))
  ]

  any_last : (done : List SignatureView) → list_any (is_of number) (done ++ signature format number sequences ∷ []) ≡ true
  any_last [] = rw (eq-eqb number number refl) refl
  any_last (x ∷ done) = elim (cases_Bool (nat_eq number x.number)) [ inl t ↦ rw t refl | inr e ↦ rw e (any_last done) ]

  -- and takes one sequence more
  grown_last : (sequence : SequenceView) (done : List SignatureView) → list_any (is_of number) done ≡ false
      → grown number sequence (done ++ signature format number sequences ∷ []) ≡ done ++ signature format number (sequences ++ sequence ∷ []) ∷ []
  grown_last sequence [] new = rw (eq-eqb number number refl) refl
  grown_last sequence (x ∷ done) new = elim (cases_Bool (nat_eq number x.number)) [
    | inl t ↦ absurd (cc (rw t at new))
    | inr e ↦ rw e (ap (λ l. x ∷ l) (grown_last sequence done (rw e at new)))
  ]

above : (a b : ℕ) → b < a → nat_le a b ≡ false
above a b h = search (rules, tests)

not_below : (a b : ℕ) → b ≤ a → nat_lt a b ≡ false
not_below a b h = search (rules, tests)

-- one row
step : (n : ℕ) (t t' told : TableView) (fields : List (List ℕ)) (later : List (List (List ℕ))) (row : Row) → row_of n fields ≡ Ok row → fault_in t n row ≡ None
    → with_row t row ≡ t'
    → table_from (n + 1) t' later ≡ Ok told → table_from n t (fields ∷ later) ≡ Ok told
unfolding judged with_record
step n t t' told fields later row is fine more rest = rw (is, fine, more) rest

module _ (formats : List Puid) (k k' format number : ℕ) (puid : Puid) (done : List SignatureView) (turn' : Turn formats k k' format puid)
    (new : list_any (is_of number) done ≡ false) where
  -- the first row of a signature has no fault
  first_fine : (n : ℕ) (sequence : SequenceView) → length done < 4000 → slot_count sequence ≤ 65535
      → fault_in (table_with (take k formats) done) n (row_for puid number sequence) ≡ None
  unfolding fault_in
  first_fine n sequence few slots = rw (found_none number done new, not_below 65535 (slot_count sequence) slots, turn'.room, above 4000 (length done) few) refl

  first_row : (sequence : SequenceView) → with_row (table_with (take k formats) done) (row_for puid number sequence) ≡ table_with (take k' formats)
      (done ++ signature format number (sequence ∷ []) ∷ [])
  unfolding with_row
  first_row sequence = rw (turn'.taken, turn'.place, new, grown_last format number [] sequence done new) refl

  -- nor has a later one
  later_fine : (n : ℕ) (sequences : List SequenceView) (sequence : SequenceView) → length sequences < 8 → slot_count sequence ≤ 65535
      → fault_in (table_with (take k' formats) (done ++ signature format number sequences ∷ [])) n (row_for puid number sequence) ≡ None
  unfolding fault_in
  later_fine n sequences sequence few slots =
      rw (
        found_last format number sequences done new,
        turn'.stays,
        eq-eqb format format refl,
        above 8 (length sequences) few,
        not_below 65535 (slot_count sequence) slots,
      ) refl

  later_row : (sequences : List SequenceView) (sequence : SequenceView)
      → with_row (table_with (take k' formats) (done ++ signature format number sequences ∷ [])) (row_for puid number sequence) ≡ table_with (take k' formats)
      (done ++ signature format number (sequences ++ sequence ∷ []) ∷ [])
  unfolding with_row
  later_row sequences sequence = rw (turn'.kept, any_last format number sequences done, grown_last format number sequences sequence done new) refl

  -- the rows of a signature behind its first ones
  later_rows : (later : List SequenceView) (sequences : List SequenceView) (n : ℕ) (rest : List (List (List ℕ))) (told : TableView)
      → IsNumber puid.number → IsNumber number → All IsSequence later → length sequences + length later ≤ 8
      → ((m : ℕ) → table_from m (table_with (take k' formats) (done ++ signature format number (sequences ++ later) ∷ [])) rest ≡ Ok told)
      → table_from n (table_with (take k' formats) (done ++ signature format number sequences ∷ []))
      (map (sequence_record (puid_text puid) number) later ++ rest) ≡ Ok told
  later_rows [] sequences n rest told is_puid is_number all few more = rw (append-nil sequences) at (more n)
  later_rows (s ∷ later) sequences n rest told is_puid is_number all few more =
      let is : IsSequence s = All-head IsSequence s later all in
      step n _ _ told (sequence_record (puid_text puid) number s) (map (sequence_record (puid_text puid) number) later ++ rest) (row_for puid number s)
      (row_of-sequence_record n puid number s is_puid is_number is) (later_fine n sequences s (omega arith) is.slots) (later_row sequences s)
      (later_rows later (sequences ++ s ∷ []) (n + 1) rest told is_puid is_number (All-tail IsSequence s later all)
      (omega (arith, length-append {A = SequenceView}))
      (λ m. rw (append_assoc sequences (s ∷ []) later) (more m)))

  -- all rows of a signature
  rows : (sequences : List SequenceView) (n : ℕ) (rest : List (List (List ℕ))) (told : TableView)
      → IsNumber puid.number → IsNumber number → All IsSequence sequences → 0 < length sequences → length sequences ≤ 8 → length done < 4000
      → ((m : ℕ) → table_from m (table_with (take k' formats) (done ++ signature format number sequences ∷ [])) rest ≡ Ok told)
      → table_from n (table_with (take k formats) done) (map (sequence_record (puid_text puid) number) sequences ++ rest) ≡ Ok told
  rows [] n rest told is_puid is_number all some few room more = absurd (omega arith)
  rows (s ∷ later) n rest told is_puid is_number all some few room more =
      let is : IsSequence s = All-head IsSequence s later all in
      step n _ _ told (sequence_record (puid_text puid) number s) (map (sequence_record (puid_text puid) number) later ++ rest) (row_for puid number s)
      (row_of-sequence_record n puid number s is_puid is_number is) (first_fine n s room is.slots) (first_row s)
      (later_rows later (s ∷ []) (n + 1) rest told is_puid is_number (All-tail IsSequence s later all) (omega arith) more)

module _ (formats : List Puid) (all : List SignatureView) (few_formats : length formats ≤ 1000) (few : length all ≤ 4000)
    (puids : All (λ p. IsNumber p.number) formats) (different : AllDifferent formats) (numbers : AllDifferent (map (λ s. s.number) all)) where
  -- the signatures behind the first ones
  signatures : (later done : List SignatureView) (k : ℕ) (met : List ℕ) (n : ℕ) → done ++ later ≡ all → All (IsSignature (length formats)) later
      → Met (length formats) k met (map (λ s. s.format) later)
      → table_from n (table_with (take k formats) done) (flat_map (records_of_signature formats) later) ≡ Ok (table_with formats all)
  unfolding judged with_record
  signatures [] done k met n whole each m =
      let k_is : k ≡ length formats = all_met formats k met m in
      let done_is : done ≡ all = sym (append-nil done) ∙ whole in
      rw (k_is, done_is, take_all (length formats) formats (omega arith)) refl
  signatures (s ∷ later) done k met n whole each m =
      let is : IsSignature (length formats) s = All-head (IsSignature (length formats)) s later each in
      let found = slice_get-within formats s.format is.known in
      let is_puid : IsNumber found.0.number = All-contains (λ p. IsNumber p.number) formats found.0 puids (Contains-slice_get formats s.format found.0 found.1)
      in
      let next = turn formats k s.format found.0 met (map (λ x. x.format) later) different few_formats found.1 is.known m in
      let new : list_any (is_of s.number) done ≡ false = is_new done later s (subst (λ l. AllDifferent (map (λ x. x.number) l)) (sym whole) numbers) in
      let size : length (done ++ s ∷ later) ≤ 4000 = rw whole few in
      let name : name_of formats s.format ≡ puid_text found.0 = ap named found.1 in
      rw name (rows formats k next.0 s.format s.number found.0 done next.1 new s.sequences n (flat_map (records_of_signature formats) later)
      (table_with formats all)
      is_puid is.number is.sequences is.some is.few (omega (arith, length-append {A = SignatureView}))
      (λ o. signatures later (done ++ s ∷ []) next.0 (met ++ s.format ∷ []) o (append_assoc done (s ∷ []) later ∙ whole)
      (All-tail (IsSignature (length formats)) s later each) next.2))

is_header : is_signature_header signature_header ≡ true
unfolding field_at
is_header = refl

-- the signature file of a table is read as its formats and its signatures
pub signatures_again : (t : TableView) → IsTable t → HasAllSignatures t → signatures_of (records_of (signature_csv t)) ≡ Ok (record t { priorities = [] })
unfolding signatures_of
signatures_again t is has_all =
    let begun : Met (length t.formats) 0 [] (map (λ s. s.format) t.signatures) = record {
      within = omega arith;
      below = λ g c. absurd (let none = c.1 in omega arith);
      each = λ g h. absurd (omega arith);
      rise = is.in_order;
      has_all = λ g h. inr (has_all g h);
    } in
    rw (records_of-signature_csv t, is_header)
    (signatures t.formats t.signatures is.formats is.signatures is.puids is.different_puids is.different_numbers t.signatures [] 0 [] 1 refl is.each begun)

-- and both files as the table
pub table_again : (t : TableView) → IsTable t → HasAllSignatures t → table_of (records_of (signature_csv t)) (records_of (priority_csv t)) ≡ Ok t
unfolding table_of
table_again t is has_all = rw (
  signatures_again t is has_all,
  records_of-priority_csv t,
  pairs_again t.formats is.puids is.different_puids t.priorities is.priorities,
) refl

-- what is read of both files has the formats and the signatures of the first
same_pairs : (s t : TableView) (read : Result (List (ℕ × ℕ)) TableError) → (read >>= (λ pairs. Ok (record s { priorities = pairs }))) ≡ Ok t
    → (s.formats ≡ t.formats) × (s.signatures ≡ t.signatures)
same_pairs s t (Ok pairs) is = let e : Ok (record s { priorities = pairs }) ≡ Ok t = is in (cc, cc)
same_pairs s t (Err error) is = absurd (let e : Err error ≡ Ok t = is in cc)

same_signatures : (priorities : Records) (t : TableView) (read : Result TableView TableError)
    → (read >>= (λ table. pairs_of table.formats priorities >>= (λ pairs. Ok (record table { priorities = pairs })))) ≡ Ok t
    → (s : TableView) × (read ≡ Ok s) × (s.formats ≡ t.formats) × (s.signatures ≡ t.signatures)
same_signatures priorities t (Ok s) is = let same = same_pairs s t (pairs_of s.formats priorities) is in (s, refl, same.0, same.1)
same_signatures priorities t (Err error) is = absurd (let e : Err error ≡ Ok t = is in cc)

-- other priorities, as they are written, are read beside the signature file of the table
pub ranked_again : (signatures priorities : Records) (t : TableView) (pairs : List (ℕ × ℕ)) → IsTable (ranked t pairs) → table_of signatures priorities ≡ Ok t
    → table_of signatures (records_of (priority_csv (ranked t pairs))) ≡ Ok (ranked t pairs)
unfolding table_of
ranked_again signatures priorities t pairs is read =
    let own = same_signatures priorities t (signatures_of signatures) read in
    rw (own.1, records_of-priority_csv (ranked t pairs), own.2, pairs_again t.formats is.puids is.different_puids pairs is.priorities)
    (cc)
