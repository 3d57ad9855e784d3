-- The rows of a signature file give its table, or a first faulty one.
use Rattle.std.proofs.Common.{◌≡◌, ℕ, ◌<◌, ◌≤◌, ◌&&◌, Bool, true, false, not, nat_eq, nat_lt, nat_le, List, [], ◌∷◌, ◌++◌, length, map, sym, ap, subst, eq-eqb}
use Rattle.std.proofs.Common.{append-nil, length-append, ◌∙◌, refl, arith, rules, tests, inl, inr, Some, None, Ok, Err}
use Rattle.std.specs.Prelude.{find, Contains}
use Rattle.std.specs.List.{list_any, position_or_len}
use Rattle.std.proofs.lemmas.Bool.{cases_Bool, eqb-true, false≢true}
use Rattle.std.proofs.lemmas.List.{length-map}
use Rattle.std.proofs.lemmas.List.Elements.{All-contains, All-nil, All-pop, All-push, Contains-append_left, Contains-append_right, Contains-push}
use Rattle.std.proofs.lemmas.List.Elements.{Contains-push_cases}
use Rattle.sig_table.proofs.DraftLemmas.{any-none, any-some}
use Rattle.sig_table.proofs.GatheredLemmas.{any-number, any-numbers_of, any-puid_of, any-signature, formats_of-append, gathered-append, number_same}
use Rattle.sig_table.proofs.GatheredLemmas.{numbers_of-append, puid_same, rows_of-append, rows_of-none}
use Rattle.sig_table.proofs.JudgingLemmas.{FirstOf-one, Turns, answered, continued, continues, stopped, stops, there_or_not}
use Rattle.sig_table.proofs.LoadLemmas.{with_record-faulty, with_record-more, with_record-unread}
use Rattle.sig_table.proofs.LimitLemmas.{FitsBeside, FitsIn, fits_beside, fits_in, room_for}
use Rattle.sig_table.specs.declared.error.TableError.{TableError}
use Rattle.sig_table.specs.declared.error.TableError.TheVariants as error
use Rattle.sig_table.specs.declared.error.TableFile.TheVariants.{Signatures}
use Rattle.sig_table.specs.declared.puid.Puid.{Puid}
use Rattle.sig_table.specs.declared.row.Row.{Row}
use Rattle.sig_table.specs.Gathered.{AreRows, BeginsWithHeader, HasEight, HasFirstFault, HasTooManySlots, IsBeyond, IsFaultAfter, IsFaultOf, IsFaultOfRow}
use Rattle.sig_table.specs.Gathered.{IsOfTwo, IsTableOf, Writes, first_format, formats_of, gathered, numbers_of, rows_of, signature_of}
use Rattle.sig_table.specs.Views.{SignatureView, TableView}
use Rattle.indexmap.specs.IndexSet.{insert_key}
use Rattle.sig_table.specs.Judging.{FirstOf}
use Rattle.sig_table.specs.Loading.{fault_at, fault_in, is_signature_header, signature_in, signatures_of, with_record, with_row}
use Rattle.sig_table.specs.Puids.{puid_eq}
use Rattle.sig_table.specs.Rows.{row_of}
use Rattle.sig_table.specs.Slots.{slot_count}

-- PUIDs in the same place are the same
same_place : (p q : Puid) (fs : List Puid) → list_any (puid_eq q) fs ≡ true → position_or_len (puid_eq p) fs ≡ position_or_len (puid_eq q) fs → p ≡ q
same_place p q [] there h = absurd (cc there)
same_place p q (f ∷ fs) there h = elim (cases_Bool (puid_eq p f)) [
  | inl t ↦ elim (cases_Bool (puid_eq q f)) [
    | inl u ↦ puid_same p f t ∙ sym (puid_same q f u)
    | inr v ↦ absurd (let g = rw (t, v) at h in omega arith)
  ]
  | inr g ↦ elim (cases_Bool (puid_eq q f)) [
    | inl u ↦ absurd (let k = rw (g, u) at h in omega arith)
    | inr v ↦ same_place p q fs (rw v at there) (let k = rw (g, v) at h in omega arith)
  ]
]

-- the first row of a number
record FirstRow (n : ℕ) (rows : List Row) : Type 0 where
  pub row : Row
  pub among : Contains rows row
  pub number : n ≡ row.number
  pub format : (fs : List Puid) → first_format fs (rows_of n rows) ≡ position_or_len (puid_eq row.puid) fs

first_of : (n : ℕ) (rows : List Row) → list_any (nat_eq n) (map (λ r. r.number) rows) ≡ true → FirstRow n rows
first_of n [] h = absurd (cc h)
first_of n (r ∷ rows) h = elim (cases_Bool (nat_eq n r.number)) [
  | inl t ↦ record { row = r; among = (0, omega arith, refl); number = number_same n r.number t; format = λ fs. rw t refl }
  | inr f ↦
      let rest = first_of n rows (rw f at h) in
      record { row = rest.row; among = Contains-append_right (r ∷ []) rows rest.row rest.among; number = rest.number; format = λ fs. rw f (rest.format fs) }
]

-- the signature that is found by its number
signature_of-found : (rows : List Row) (n : ℕ) (ms : List ℕ) (s : SignatureView) → find (λ z. nat_eq n z.number) (map (signature_of rows) ms) ≡ Some s
    → signature_of rows n ≡ s
signature_of-found rows n [] s h = absurd (cc h)
signature_of-found rows n (m ∷ ms) s h = elim (cases_Bool (nat_eq n m)) [
  | inl t ↦
      let found : signature_of rows m ≡ s = cc (rw t at h) in
      subst (λ k. signature_of rows k ≡ s) (sym (number_same n m t)) found
  | inr f ↦ signature_of-found rows n ms s (rw f at h)
]

-- earlier rows have the row's number: the first of them names the format, and all of them give sequences
record IsMore (done : List Row) (row : Row) (s : SignatureView) : Type 0 where
  pub there : list_any (nat_eq row.number) (map (λ r. r.number) done) ≡ true
  pub first : FirstRow row.number done
  pub format : s.format ≡ position_or_len (puid_eq first.row.puid) (formats_of done)
  pub count : length s.sequences ≡ length (rows_of row.number done)

is_more : (done : List Row) (row : Row) (s : SignatureView) → signature_in (gathered done).signatures row.number ≡ Some s → IsMore done row s
is_more done row s found =
    let there : list_any (nat_eq row.number) (map (λ r. r.number) done) ≡ true =
    sym (any-signature done row.number) ∙ any-some (λ z. nat_eq row.number z.number) (map (signature_of done) (numbers_of done)) s found in
    let first = first_of row.number done there in
    let is = signature_of-found done row.number (numbers_of done) s found in
    record {
      there = there;
      first = first;
      format = ap (λ z. z.format) (sym is) ∙ first.format (formats_of done);
      count = ap (λ z. length z.sequences) (sym is) ∙ length-map (rows_of row.number done) (λ r. r.sequence);
    }

is_new : (done : List Row) (row : Row) → signature_in (gathered done).signatures row.number ≡ None
    → list_any (nat_eq row.number) (map (λ r. r.number) done) ≡ false
is_new done row none = sym (any-signature done row.number) ∙ any-none (λ z. nat_eq row.number z.number) (map (signature_of done) (numbers_of done)) none

-- the row is of the first one's PUID where it is in its place
same_puid : (done : List Row) (row : Row) (s : SignatureView) (more : IsMore done row s) → position_or_len (puid_eq row.puid) (formats_of done) ≡ s.format
    → row.puid ≡ more.first.row.puid
same_puid done row s more same =
    same_place row.puid more.first.row.puid (formats_of done) (any-puid_of more.first.row done more.first.among) (same ∙ more.format)

-- a number that no row has
not_there : (done : List Row) (n : ℕ) → list_any (nat_eq n) (map (λ r. r.number) done) ≡ false → (x : Row) → Contains done x → x.number ≡ n → ⊥
not_there done n none x c same = false≢true (sym none ∙ subst (λ k. list_any (nat_eq k) (map (λ r. r.number) done) ≡ true) same (any-number x done c))

-- one row more of a number has the PUID of the others
one_format-with : (done : List Row) (row : Row) → AreRows done → ((x : Row) → Contains done x → x.number ≡ row.number → x.puid ≡ row.puid)
    → (x y : Row) → Contains (done ++ row ∷ []) x → Contains (done ++ row ∷ []) y → x.number ≡ y.number → x.puid ≡ y.puid
one_format-with done row are one x y cx cy same = elim (Contains-push_cases done row x cx) [
  | inl bx ↦ elim (Contains-push_cases done row y cy) [
    | inl by ↦ are.one_format x y bx by same
    | inr is ↦ one x bx (same ∙ ap (λ r. r.number) (sym is)) ∙ ap (λ r. r.puid) is
  ]
  | inr is ↦ elim (Contains-push_cases done row y cy) [
    | inl by ↦ sym (one y by (sym same ∙ ap (λ r. r.number) (sym is)) ∙ ap (λ r. r.puid) is)
    | inr also ↦ ap (λ r. r.puid) (sym is ∙ also)
  ]
]

few_sequences-with : (done : List Row) (row : Row) → AreRows done → length (rows_of row.number done) < 8 → (k : ℕ) → length (rows_of k (done ++ row ∷ [])) ≤ 8
few_sequences-with done row are room k = elim (cases_Bool (nat_eq k row.number)) [
  | inl t ↦
      let few : length (rows_of k done) < 8 = subst (λ m. length (rows_of m done) < 8) (sym (number_same k row.number t)) room in
      rw (rows_of-append k done row, t) (omega (arith, length-append {A = Row}))
  | inr f ↦ rw (rows_of-append k done row, f, append-nil (rows_of k done)) (are.few_sequences k)
]

-- a row without fault, of a number that is there
more-rows : (done : List Row) (row : Row) (s : SignatureView) → AreRows done → IsMore done row s → FitsIn (gathered done) row s → AreRows (done ++ row ∷ [])
more-rows done row s are more fits =
    let one = same_puid done row s more fits.same in
    let there : list_any (puid_eq row.puid) (formats_of done) ≡ true = rw one (any-puid_of more.first.row done more.first.among) in
    let room = fits.room in
    let count = more.count in
    record {
      one_format = one_format-with done row are (λ x c same. are.one_format x more.first.row c more.first.among (same ∙ more.first.number) ∙ sym one);
      few_sequences = few_sequences-with done row are (omega arith);
      few_slots = All-push (λ r. slot_count r.sequence ≤ 65535) done row are.few_slots fits.slots;
      few_formats = rw (formats_of-append done row, there) are.few_formats;
      few_signatures = rw (numbers_of-append done row, any-numbers_of done row.number, more.there) are.few_signatures;
    }

-- and of a new one
new-rows : (done : List Row) (row : Row) → AreRows done → list_any (nat_eq row.number) (map (λ r. r.number) done) ≡ false → FitsBeside (gathered done) row
    → AreRows (done ++ row ∷ [])
new-rows done row are new fits =
    let few : length (numbers_of done) < 4000 = rw length-map at fits.signatures in
    record {
      one_format = one_format-with done row are (λ x c same. absurd (not_there done row.number new x c same));
      few_sequences = few_sequences-with done row are (rw (rows_of-none row.number done new) (omega arith));
      few_slots = All-push (λ r. slot_count r.sequence ≤ 65535) done row are.few_slots fits.slots;
      few_formats = rw (formats_of-append done row) (room_for (formats_of done) row.puid are.few_formats fits.formats);
      few_signatures = rw (numbers_of-append done row, any-numbers_of done row.number, new) (omega (arith, length-append {A = ℕ}));
    }

one_more : (done : List Row) (n : ℕ) (row : Row) → AreRows done → fault_in (gathered done) n row ≡ None → AreRows (done ++ row ∷ [])
unfolding fault_in
one_more done n row are fine = elim (there_or_not (signature_in (gathered done).signatures row.number)) [
  | inl none ↦ new-rows done row are (is_new done row none) (fits_beside (gathered done) row n (rw none at fine))
  | inr s ↦ more-rows done row s.0 are (is_more done row s.0 s.1) (fits_in (gathered done) row n s.0 (rw s.1 at fine))
]

no_rows : AreRows []
no_rows = record {
  one_format = λ x y cx cy same. absurd (let within = cx.1 in omega arith);
  few_sequences = λ k. omega arith;
  few_slots = All-nil _;
  few_formats = omega arith;
  few_signatures = omega arith;
}

-- the fault of a row of a number that is there, in plain words
fault-more : (done : List Row) (n : ℕ) (row : Row) (s : SignatureView) (e : TableError) → AreRows done → IsMore done row s
    → fault_at (Some s) (gathered done) n row ≡ Some e → IsFaultOfRow done n row e
fault-more done n row s e are more h =
    let first = more.first in
    let count = more.count in
    elim (cases_Bool (nat_eq (position_or_len (puid_eq row.puid) (formats_of done)) s.format)) [
      | inl same ↦
          let one = same_puid done row s more (eqb-true _ _ same) in
          let not_two : IsOfTwo done row → ⊥ = λ two. two.3 (are.one_format two.0 first.row two.1 first.among (two.2 ∙ first.number) ∙ sym one) in
          elim (cases_Bool (nat_le 8 (length s.sequences))) [
            | inl full ↦
                let is : error.TooManySequences n ≡ e = cc (rw (same, full) at h) in
                let eight : 8 ≤ length s.sequences = search (rules, tests) in
                inr (not_two, inl (omega arith, sym is))
            | inr room ↦ elim (cases_Bool (nat_lt 65535 (slot_count row.sequence))) [
              | inl many ↦
                  let is : error.TooManySlots n ≡ e = cc (rw (same, room, many) at h) in
                  let below : length s.sequences < 8 = search (rules, tests) in
                  let not_eight : HasEight done row → ⊥ = λ eight. omega arith in
                  inr (not_two, inr (not_eight, inl (search (rules, tests), sym is)))
              | inr few ↦ absurd (cc (rw (same, room, few) at h))
            ]
          ]
      | inr other ↦
          let is : error.SignatureOfTwo n ≡ e = cc (rw other at h) in
          let two : first.row.puid ≡ row.puid → ⊥ = λ same. false≢true
          (sym other ∙ eq-eqb _ _ (ap (λ p. position_or_len (puid_eq p) (formats_of done)) (sym same) ∙ sym more.format)) in
          inl ((first.row, first.among, sym first.number, two), sym is)
    ]

-- no room for another PUID
formats-beyond : (done : List Row) (row : Row) → (nat_le 1000 (length (formats_of done)) && not (list_any (puid_eq row.puid) (formats_of done))) ≡ true
    → 1000 < length (formats_of (done ++ row ∷ []))
formats-beyond done row full = elim (cases_Bool (nat_le 1000 (length (formats_of done)))) [
  | inl many ↦ elim (cases_Bool (list_any (puid_eq row.puid) (formats_of done))) [
    | inl there ↦ absurd (cc (rw (many, there) at full))
    | inr new ↦
        let most : 1000 ≤ length (formats_of done) = search (rules, tests) in
        rw (formats_of-append done row, new) (omega (arith, length-append {A = Puid}))
  ]
  | inr few ↦ absurd (cc (rw few at full))
]

-- nor for another number
numbers-beyond : (done : List Row) (row : Row) → list_any (nat_eq row.number) (map (λ r. r.number) done) ≡ false
    → nat_le 4000 (length (map (signature_of done) (numbers_of done))) ≡ true → 4000 < length (numbers_of (done ++ row ∷ []))
numbers-beyond done row new full =
    let most : 4000 ≤ length (map (signature_of done) (numbers_of done)) = search (rules, tests) in
    let all : 4000 ≤ length (numbers_of done) = rw length-map at most in
    rw (numbers_of-append done row, any-numbers_of done row.number, new) (omega (arith, length-append {A = ℕ}))

-- and that of a row of a new number
fault-new : (done : List Row) (n : ℕ) (row : Row) (e : TableError) → list_any (nat_eq row.number) (map (λ r. r.number) done) ≡ false
    → fault_at None (gathered done) n row ≡ Some e → IsFaultOfRow done n row e
fault-new done n row e new h =
    let not_two : IsOfTwo done row → ⊥ = λ two. not_there done row.number new two.0 two.1 two.2 in
    let none : rows_of row.number done ≡ [] = rows_of-none row.number done new in
    let not_eight : HasEight done row → ⊥ = λ eight. (let of_none = rw none at eight in omega arith) in
    elim (cases_Bool (nat_lt 65535 (slot_count row.sequence))) [
      | inl many ↦
          let is : error.TooManySlots n ≡ e = cc (rw many at h) in
          inr (not_two, inr (not_eight, inl (search (rules, tests), sym is)))
      | inr few ↦
          let at_most : slot_count row.sequence ≤ 65535 = search (rules, tests) in
          let not_long : HasTooManySlots row → ⊥ = λ long. omega arith in
          elim (cases_Bool (nat_le 1000 (length (formats_of done)) && not (list_any (puid_eq row.puid) (formats_of done)))) [
            | inl full ↦
                let is : error.TooManyFormats n ≡ e = cc (rw (few, full) at h) in
                inr (not_two, inr (not_eight, inr (not_long, (inl (formats-beyond done row full), sym is))))
            | inr room ↦ elim (cases_Bool (nat_le 4000 (length (map (signature_of done) (numbers_of done))))) [
              | inl full ↦
                  let is : error.TooManyFormats n ≡ e = cc (rw (few, room, full) at h) in
                  inr (not_two, inr (not_eight, inr (not_long, (inr (numbers-beyond done row new full), sym is))))
              | inr free ↦ absurd (cc (rw (few, room, free) at h))
            ]
          ]
    ]

fault_of_row : (done : List Row) (n : ℕ) (row : Row) (e : TableError) → AreRows done → fault_in (gathered done) n row ≡ Some e → IsFaultOfRow done n row e
unfolding fault_in
fault_of_row done n row e are h = elim (there_or_not (signature_in (gathered done).signatures row.number)) [
  | inl none ↦ fault-new done n row e (is_new done row none) (rw none at h)
  | inr s ↦ fault-more done n row s.0 e are (is_more done row s.0 s.1) (rw s.1 at h)
]

-- rows before the last one of a table are of a table too
front-rows : (done : List Row) (row : Row) → AreRows (done ++ row ∷ []) → AreRows done
front-rows done row are = record {
  one_format = λ x y cx cy same. are.one_format x y (Contains-append_left done (row ∷ []) x cx) (Contains-append_left done (row ∷ []) y cy) same;
  few_sequences = λ k. (let few = rw (rows_of-append k done row) at (are.few_sequences k) in omega (arith, length-append {A = Row}));
  few_slots = (All-pop (λ r. slot_count r.sequence ≤ 65535) (done ++ row ∷ []) done (Some row) refl are.few_slots).0;
  few_formats = front-keys puid_eq (formats_of done) row.puid 1000 (rw (formats_of-append done row) at are.few_formats);
  few_signatures = front-keys nat_eq (numbers_of done) row.number 4000 (rw (numbers_of-append done row) at are.few_signatures);
}
  where
    front-keys : {A : Type 0} (eq : A → A → Bool) (keys : List A) (key : A) (most : ℕ) → length (insert_key eq keys key) ≤ most → length keys ≤ most
    front-keys {A} eq keys key most few = elim (cases_Bool (list_any (eq key) keys)) [
      | inl there ↦ rw there at few
      | inr new ↦ (let all = rw new at few in omega (arith, length-append {A = A}))
    ]

-- a row with a fault makes no table with those before it
faulty_are_not : (done : List Row) (n : ℕ) (row : Row) (e : TableError) → IsFaultOfRow done n row e → AreRows (done ++ row ∷ []) → ⊥
faulty_are_not done n row e fault are = elim fault [
  | inl two ↦ two.0.3 (are.one_format two.0.0 row (Contains-append_left done (row ∷ []) two.0.0 two.0.1) (Contains-push done row) two.0.2)
  | inr a ↦ elim a.1 [
    | inl eight ↦
        let few = rw (rows_of-append row.number done row, eq-eqb row.number row.number refl) at (are.few_sequences row.number) in
        let full = eight.0 in
        omega (arith, length-append {A = Row})
    | inr b ↦ elim b.1 [
      | inl long ↦ (let slots = All-contains (λ r. slot_count r.sequence ≤ 65535) (done ++ row ∷ []) row are.few_slots (Contains-push done row) in let many =
          long.0 in omega arith)
      | inr c ↦ elim c.1.0 [
        | inl formats ↦ (let few = are.few_formats in omega arith)
        | inr numbers ↦ (let few = are.few_signatures in omega arith)
      ]
    ]
  ]
]

-- a row has one first fault
one_fault : (done : List Row) (n : ℕ) (row : Row) (a b : TableError) → IsFaultOfRow done n row a → IsFaultOfRow done n row b → a ≡ b
one_fault done n row a b x y =
    let last : TableError → Type 0 = λ e. IsBeyond done row × (e ≡ error.TooManyFormats n) in
    let third : TableError → Type 0 = FirstOf (HasTooManySlots row) (error.TooManySlots n) last in
    let second : TableError → Type 0 = FirstOf (HasEight done row) (error.TooManySequences n) third in
    FirstOf-one (IsOfTwo done row) (error.SignatureOfTwo n) second a b
    (FirstOf-one (HasEight done row) (error.TooManySequences n) third a b
    (FirstOf-one (HasTooManySlots row) (error.TooManySlots n) last a b (λ x y. x.1 ∙ sym y.1))) x y

more : (done : List Row) (n : ℕ) (fields : List (List ℕ)) (s : TableView) → AreRows done → with_record n (gathered done) fields ≡ Ok s → (row : Row)
    × Writes n fields row × AreRows (done ++ row ∷ []) × (s ≡ gathered (done ++ row ∷ []))
unfolding with_record
more done n fields s are h = elim (answered (row_of n fields)) [
  | inl a ↦ elim (there_or_not (fault_in (gathered done) n a.0)) [
    | inl fine ↦
        let same : with_row (gathered done) a.0 ≡ s = cc (rw (a.1, fine) at h) in
        (a.0, a.1, one_more done n a.0 are fine, sym same ∙ sym (gathered-append done a.0))
    | inr fault ↦ absurd (cc (rw (a.1, fault.1) at h))
  ]
  | inr e ↦ absurd (cc (rw e.1 at h))
]

taken : (done : List Row) (n : ℕ) (fields : List (List ℕ)) (row : Row) → Writes n fields row → AreRows (done ++ row ∷ [])
    → with_record n (gathered done) fields ≡ Ok (gathered (done ++ row ∷ []))
taken done n fields row writes are = elim (there_or_not (fault_in (gathered done) n row)) [
  | inl fine ↦ with_record-more n (gathered done) fields row writes fine ∙ ap (λ t. Ok t) (sym (gathered-append done row))
  | inr e ↦ absurd (faulty_are_not done n row e.0 (fault_of_row done n row e.0 (front-rows done row are) e.1) are)
]

faulty : (done : List Row) (n : ℕ) (fields : List (List ℕ)) (e : TableError) → AreRows done → with_record n (gathered done) fields ≡ Err e
    → IsFaultAfter done n fields e
unfolding with_record
faulty done n fields e are h = elim (answered (row_of n fields)) [
  | inl a ↦ elim (there_or_not (fault_in (gathered done) n a.0)) [
    | inl fine ↦ absurd (cc (rw (a.1, fine) at h))
    | inr fault ↦
        let same : fault.0 ≡ e = cc (rw (a.1, fault.1) at h) in
        inr (a.0, a.1, subst (IsFaultOfRow done n a.0) same (fault_of_row done n a.0 fault.0 are fault.1))
  ]
  | inr f ↦ let same : f.0 ≡ e = cc (rw f.1 at h) in inl (subst (λ x. row_of n fields ≡ Err x) same f.1)
]

refused : (done : List Row) (n : ℕ) (fields : List (List ℕ)) (e : TableError) → AreRows done → IsFaultAfter done n fields e
    → with_record n (gathered done) fields ≡ Err e
refused done n fields e are fault = elim fault [
  | inl unread ↦ with_record-unread n (gathered done) fields e unread
  | inr row ↦ elim (there_or_not (fault_in (gathered done) n row.0)) [
    | inl fine ↦ absurd (faulty_are_not done n row.0 e row.2 (one_more done n row.0 are fine))
    | inr f ↦
        let same : f.0 ≡ e = one_fault done n row.0 f.0 e (fault_of_row done n row.0 f.0 are f.1) row.2 in
        with_record-faulty n (gathered done) fields row.0 e row.1 (rw (f.1, same) refl)
  ]
]

-- how the rows of a signature file decide a turn
turns : Turns with_record gathered AreRows Writes IsFaultAfter
turns = record { front = front-rows; more = more; taken = taken; faulty = faulty; refused = refused }

-- no record is no header
nothing_begins : BeginsWithHeader [] → ⊥
nothing_begins b = cc b.2

-- a record that is no header is none
other_begins : (header : List (List ℕ)) (records : List (List (List ℕ))) → is_signature_header header ≡ false → BeginsWithHeader (header ∷ records) → ⊥
other_begins header records other b = let same : header ≡ b.0 = cc b.2 in cc (sym (subst (λ h. is_signature_header h ≡ true) (sym same) b.3) ∙ other)

pub is_table_of : (file : List (List (List ℕ))) (table : TableView) → signatures_of file ≡ Ok table → IsTableOf file table
unfolding signatures_of
is_table_of [] table h = absurd (cc h)
is_table_of (header ∷ records) table h = elim (cases_Bool (is_signature_header header)) [
  | inl t ↦
      let c = continues with_record gathered AreRows Writes IsFaultAfter turns records [] 1 table no_rows (rw t at h) in
      record { header = header; records = records; cut = refl; is_header = t; rows = c.rows; write = c.write; are = c.are; gathers = c.is }
  | inr f ↦ absurd (cc (rw f at h))
]

pub is_fault_of : (file : List (List (List ℕ))) (fault : TableError) → signatures_of file ≡ Err fault → IsFaultOf file fault
unfolding signatures_of
is_fault_of [] fault h = inl (nothing_begins, cc h)
is_fault_of (header ∷ records) fault h = elim (cases_Bool (is_signature_header header)) [
  | inl t ↦
      let s = stops with_record gathered AreRows Writes IsFaultAfter turns records [] 1 fault no_rows (rw t at h) in
      inr (record {
        header = header;
        earlier = s.earlier;
        fields = s.fields;
        later = s.later;
        cut = ap (λ l. header ∷ l) s.cut;
        is_header = t;
        rows =
            s.rows;
        write = s.write;
        are = s.are;
        has = s.has;
      })
  | inr f ↦ inl (other_begins header records f, cc (rw f at h))
]

-- and the other way
pub table_is_given : (file : List (List (List ℕ))) (table : TableView) → IsTableOf file table → signatures_of file ≡ Ok table
unfolding signatures_of
table_is_given file table is = rw (is.cut, is.is_header, is.gathers)
    (continued with_record gathered AreRows Writes IsFaultAfter turns is.records [] is.rows 1 is.write is.are)

no_header_is_told : (file : List (List (List ℕ))) → (BeginsWithHeader file → ⊥) → signatures_of file ≡ Err (error.Header Signatures)
unfolding signatures_of
no_header_is_told [] none = refl
no_header_is_told (header ∷ records) none = elim (cases_Bool (is_signature_header header)) [
  | inl t ↦ absurd (none (header, records, refl, t))
  | inr f ↦ rw f refl
]

first_fault_given : (file : List (List (List ℕ))) (fault : TableError) → HasFirstFault file fault → signatures_of file ≡ Err fault
unfolding signatures_of
first_fault_given file fault is = rw (is.cut, is.is_header) (stopped with_record gathered AreRows Writes IsFaultAfter turns is.earlier [] is.rows 1 is.fields
    is.later fault is.write is.are is.has)

pub fault_is_given : (file : List (List (List ℕ))) (fault : TableError) → IsFaultOf file fault → signatures_of file ≡ Err fault
fault_is_given file fault is = elim is [
  | inl none ↦ no_header_is_told file none.0 ∙ ap (λ e. Err e) (sym none.1)
  | inr first ↦ first_fault_given file fault first
]
