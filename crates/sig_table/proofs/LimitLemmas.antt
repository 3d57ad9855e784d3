-- A row without fault keeps the limits of a table.
use Rattle.std.proofs.Common.{◌≡◌, ◌⊎◌, ℕ, ◌+◌, ◌<◌, ◌≤◌, true, false, not, nat_eq, nat_lt, nat_le, ◌&&◌, List, [], ◌∷◌, ◌++◌, length, map, ◌∙◌, refl, eq-eqb}
use Rattle.std.proofs.Common.{arith, rules, tests, length-append, inl, inr, Option, Some, None}
use Rattle.std.specs.Prelude.{find, All, Contains}
use Rattle.std.specs.List.{list_any, position_or_len}
use Rattle.std.proofs.lemmas.Bool.{cases_Bool, cases_lt, eqb-true}
use Rattle.std.proofs.lemmas.List.{map_push}
use Rattle.std.proofs.lemmas.List.Elements.{All-map, All-nil, All-push, All-weaker, Contains-append_left, Contains-append_right}
use Rattle.indexmap.specs.IndexSet.{insert_key}
use Rattle.sig_table.specs.declared.puid.Puid.{Puid}
use Rattle.sig_table.specs.declared.puid.Registry.TheVariants.{Fmt, XFmt}
use Rattle.sig_table.specs.declared.row.Row.{Row}
use Rattle.sig_table.specs.Views.{SignatureView, TableView}
use Rattle.sig_table.specs.Loading.{fault_at, fault_in, grown, with_number}
use Rattle.sig_table.specs.Puids.{puid_eq}
use Rattle.sig_table.specs.Rows.{IsRow}
use Rattle.sig_table.specs.Slots.{slot_count}
use Rattle.sig_table.specs.Tables.{HasAllSignatures, IsNumber, IsSequence, IsSignature, IsTable}
use Rattle.sig_table.proofs.DraftLemmas.{All-find, any-none, any-numbers, any-some, any-within, length-grown, length-insert_key-ge, numbers-grown, position-any}
use Rattle.sig_table.proofs.DraftLemmas.{position-insert_key, position-not_any}
use Rattle.sig_table.proofs.PriorityLemmas.{no_priorities}
use Rattle.sig_table.proofs.TableLemmas.{All-grown, AllDifferent-insert_key, AllDifferent-push, FormatsRise-push, IsSignature-first, IsSignature-more}
use Rattle.sig_table.proofs.TableLemmas.{IsSignature-wider, formats-grown, grown-new, not_contained}

-- a row without fault, whose signature is there
pub record FitsIn (t : TableView) (row : Row) (s : SignatureView) : Type 0 where
  pub same : position_or_len (puid_eq row.puid) t.formats ≡ s.format
  pub room : length s.sequences < 8
  pub slots : slot_count row.sequence ≤ 65535

pub fits_in : (t : TableView) (row : Row) (n : ℕ) (s : SignatureView) → fault_at (Some s) t n row ≡ None → FitsIn t row s
fits_in t row n s fine = elim (cases_Bool (nat_eq (position_or_len (puid_eq row.puid) t.formats) s.format)) [
  | inl same ↦ elim (cases_Bool (nat_le 8 (length s.sequences))) [
    | inl full ↦ absurd (cc (rw (same, full) at fine))
    | inr room ↦ elim (cases_Bool (nat_lt 65535 (slot_count row.sequence))) [
      | inl many ↦ absurd (cc (rw (same, room, many) at fine))
      | inr few ↦ record { same = eqb-true _ _ same; room = search (rules, tests); slots = search (rules, tests) }
    ]
  ]
  | inr other ↦ absurd (cc (rw other at fine))
]

-- and one whose signature is not there
pub record FitsBeside (t : TableView) (row : Row) : Type 0 where
  pub slots : slot_count row.sequence ≤ 65535
  pub formats : (nat_le 1000 (length t.formats) && not (list_any (puid_eq row.puid) t.formats)) ≡ false
  pub signatures : length t.signatures < 4000

pub room_for : (fs : List Puid) (puid : Puid) → length fs ≤ 1000 → (nat_le 1000 (length fs) && not (list_any (puid_eq puid) fs)) ≡ false
    → length (insert_key puid_eq fs puid) ≤ 1000
room_for fs puid within room = elim (cases_Bool (list_any (puid_eq puid) fs)) [
  | inl there ↦ rw there within
  | inr new ↦ elim (cases_Bool (nat_le 1000 (length fs))) [
    | inl full ↦ absurd (cc (rw (full, new) at room))
    | inr free ↦ (let few : length fs < 1000 = search (rules, tests) in rw new (omega (arith, length-append {A = Puid})))
  ]
]

pub fits_beside : (t : TableView) (row : Row) (n : ℕ) → fault_at None t n row ≡ None → FitsBeside t row
fits_beside t row n fine = elim (cases_Bool (nat_lt 65535 (slot_count row.sequence))) [
  | inl many ↦ absurd (cc (rw many at fine))
  | inr few ↦ elim (cases_Bool (nat_le 1000 (length t.formats) && not (list_any (puid_eq row.puid) t.formats))) [
    | inl full ↦ absurd (cc (rw (few, full) at fine))
    | inr room ↦ elim (cases_Bool (nat_le 4000 (length t.signatures))) [
      | inl full ↦ absurd (cc (rw (few, room, full) at fine))
      | inr free ↦ record { slots = search (rules, tests); formats = room; signatures = search (rules, tests) }
    ]
  ]
]

-- the sequence of a row without fault is within its limits
judged : (row : Row) → IsRow row → slot_count row.sequence ≤ 65535 → IsSequence row.sequence
judged row read slots = record { offsets = read.offsets; expression = read.expression; slots = slots }

judged_at : (t : TableView) (row : Row) (n : ℕ) → IsRow row → (o : Option SignatureView) → fault_at o t n row ≡ None → IsSequence row.sequence
judged_at t row n read None fine = judged row read (fits_beside t row n fine).slots
judged_at t row n read (Some s) fine = judged row read (fits_in t row n s fine).slots

pub IsSequence-judged : (t : TableView) (row : Row) (n : ℕ) → IsRow row → fault_in t n row ≡ None → IsSequence row.sequence
unfolding fault_in
IsSequence-judged t row n read fine = judged_at t row n read (find (λ s. nat_eq row.number s.number) t.signatures) fine

-- the limits of a table in which each format has a signature
pub record IsWhole (t : TableView) : Type 0 where
  pub limits : IsTable t
  pub has_all : HasAllSignatures t

pub puid_eq-itself : (p : Puid) → puid_eq p p ≡ true
puid_eq-itself p = elim p.registry as (λ r. puid_eq (record p { registry = r }) (record p { registry = r }) ≡ true)
    [ Fmt ↦ eq-eqb p.number p.number refl | XFmt ↦ eq-eqb p.number p.number refl ]

-- the lists with a row more
abbrev formats_with : TableView → Row → List Puid
formats_with t row = insert_key puid_eq t.formats row.puid

abbrev signatures_with : TableView → Row → List SignatureView
signatures_with t row = grown row.number row.sequence (with_number t.signatures row.number (position_or_len (puid_eq row.puid) t.formats))

-- a sequence more of a signature that is there
whole_in : (t : TableView) (row : Row) (s : SignatureView) → IsWhole t → IsRow row → find (λ s. nat_eq row.number s.number) t.signatures ≡ Some s
    → FitsIn t row s
    → IsWhole (record { formats = formats_with t row; signatures = signatures_with t row; priorities = [] })
whole_in t row s whole read found fits =
    let table = whole.limits in
    let is : IsSignature (length t.formats) s = All-find (λ s. nat_eq row.number s.number) (IsSignature (length t.formats)) t.signatures s table.each found in
    let known : position_or_len (puid_eq row.puid) t.formats < length t.formats = (let below = is.known in let same = fits.same in omega arith) in
    let there : list_any (puid_eq row.puid) t.formats ≡ true = any-within (puid_eq row.puid) t.formats known in
    let more = IsSignature-more (length t.formats) s row.sequence is fits.room (judged row read fits.slots) in
    rw (there, any-some (λ s. nat_eq row.number s.number) t.signatures s found) (record {
      limits = record {
        formats = table.formats;
        signatures = rw length-grown table.signatures;
        puids = table.puids;
        different_puids = table.different_puids;
        each = All-grown (IsSignature (length t.formats)) row.number row.sequence t.signatures s table.each found more;
        different_numbers = rw numbers-grown table.different_numbers;
        in_order = rw formats-grown table.in_order;
        priorities = no_priorities _;
      };
      has_all = λ f lt. rw formats-grown (whole.has_all f lt);
    })

-- the format of a new signature was met or is above all
next_format : (t : TableView) (row : Row) → IsWhole t → Contains (map (λ s. s.format) t.signatures) (position_or_len (puid_eq row.puid) t.formats)
    ⊎ All (λ g. g < position_or_len (puid_eq row.puid) t.formats) (map (λ s. s.format) t.signatures)
next_format t row whole = elim (cases_Bool (list_any (puid_eq row.puid) t.formats)) [
  | inl there ↦ inl (whole.has_all _ (position-any (puid_eq row.puid) t.formats there))
  | inr new ↦
      let last = position-not_any (puid_eq row.puid) t.formats new in
      inr (All-map (λ g. g < position_or_len (puid_eq row.puid) t.formats) (λ s. s.format) t.signatures
      (All-weaker (IsSignature (length t.formats)) (λ s. s.format < position_or_len (puid_eq row.puid) t.formats)
      (λ s h. let known = h.known in omega arith) t.signatures whole.limits.each))
]

-- a format of the lists is one of those before, or that of the row
format_before : (t : TableView) (row : Row) (g : ℕ) → g < length (formats_with t row) → (g < length t.formats)
    ⊎ (position_or_len (puid_eq row.puid) t.formats ≡ g)
format_before t row g lt = elim (cases_Bool (list_any (puid_eq row.puid) t.formats)) [
  | inl there ↦ inl (rw there at lt)
  | inr new ↦
      let last = position-not_any (puid_eq row.puid) t.formats new in
      let within : g < length (t.formats ++ row.puid ∷ []) = rw new at lt in
      let at : length (t.formats ++ row.puid ∷ []) ≡ length t.formats + 1 = length-append t.formats (row.puid ∷ []) in
      elim (cases_lt g (length t.formats)) [ inl before ↦ inl before | inr past ↦ inr (omega arith) ]
]

puids_with : (t : TableView) (row : Row) → IsTable t → IsRow row → All (λ p. IsNumber p.number) (formats_with t row)
puids_with t row table read = elim (cases_Bool (list_any (puid_eq row.puid) t.formats)) [
  | inl there ↦ rw there table.puids
  | inr new ↦ rw new (All-push (λ p. IsNumber p.number) t.formats row.puid table.puids read.puid)
]

-- a new signature
whole_beside : (t : TableView) (row : Row) → IsWhole t → IsRow row → find (λ s. nat_eq row.number s.number) t.signatures ≡ None → FitsBeside t row
    → IsWhole (record { formats = formats_with t row; signatures = signatures_with t row; priorities = [] })
whole_beside t row whole read found fits =
    let table = whole.limits in
    let ss : List SignatureView = t.signatures in
    let f : ℕ = position_or_len (puid_eq row.puid) t.formats in
    let k : ℕ = length (formats_with t row) in
    let first : SignatureView = record { format = f; number = row.number; sequences = row.sequence ∷ [] } in
    let none : list_any (λ s. nat_eq row.number s.number) ss ≡ false = any-none (λ s. nat_eq row.number s.number) ss found in
    let grew : signatures_with t row ≡ ss ++ first ∷ [] = rw none
    (grown-new row.number row.sequence ss (record { format = f; number = row.number; sequences = [] }) none (eq-eqb row.number row.number refl)) in
    let numbers : map (λ s. s.number) (ss ++ first ∷ []) ≡ map (λ s. s.number) ss ++ row.number ∷ [] = map_push (λ s. s.number) ss first in
    let formats : map (λ s. s.format) (ss ++ first ∷ []) ≡ map (λ s. s.format) ss ++ f ∷ [] = map_push (λ s. s.format) ss first in
    let wider : All (IsSignature k) ss = All-weaker (IsSignature (length t.formats)) (IsSignature k)
    (λ s h. IsSignature-wider (length t.formats) k s (length-insert_key-ge t.formats row.puid) h) ss table.each in
    let is_first = IsSignature-first k f row.number row.sequence (position-insert_key t.formats row.puid) read.number (judged row read fits.slots) in
    let room = fits.signatures in
    rw grew (record {
      limits = record {
        formats = room_for t.formats row.puid table.formats fits.formats;
        signatures = omega (arith, length-append ss (first ∷ []));
        puids = puids_with t row table read;
        different_puids = AllDifferent-insert_key puid_eq t.formats row.puid (puid_eq-itself row.puid) table.different_puids;
        each = All-push (IsSignature k) ss first wider is_first;
        different_numbers = rw numbers (AllDifferent-push (map (λ s. s.number) ss) row.number table.different_numbers
            (not_contained nat_eq (map (λ s. s.number) ss) row.number (eq-eqb row.number row.number refl) (any-numbers row.number ss ∙ none)));
        in_order = rw formats (FormatsRise-push [] (map (λ s. s.format) ss) f table.in_order (next_format t row whole));
        priorities = no_priorities _;
      };
      has_all = λ g lt. rw formats (elim (format_before t row g lt) [
        | inl before ↦ Contains-append_left (map (λ s. s.format) ss) (f ∷ []) g (whole.has_all g before)
        | inr same ↦ Contains-append_right (map (λ s. s.format) ss) (f ∷ []) g (0, omega arith, same)
      ]);
    })

whole_at : (t : TableView) (row : Row) (n : ℕ) → IsWhole t → IsRow row → (o : Option SignatureView) → find (λ s. nat_eq row.number s.number) t.signatures ≡ o
    → fault_at o t n row ≡ None
    → IsWhole (record { formats = formats_with t row; signatures = signatures_with t row; priorities = [] })
whole_at t row n whole read None found fine = whole_beside t row whole read found (fits_beside t row n fine)
whole_at t row n whole read (Some s) found fine = whole_in t row s whole read found (fits_in t row n s fine)

-- a row without fault keeps the limits
pub IsWhole-with_row : (t : TableView) (row : Row) (n : ℕ) (fs : List Puid) (ss : List SignatureView) → IsWhole t → IsRow row → fault_in t n row ≡ None
    → fs ≡ formats_with t row → ss ≡ signatures_with t row → IsWhole (record { formats = fs; signatures = ss; priorities = [] })
unfolding fault_in
IsWhole-with_row t row n fs ss whole read fine formats signatures = rw (formats, signatures) (whole_at t row n whole read _ refl fine)

-- and no row keeps them
pub IsWhole-none : (fs : List Puid) (ss : List SignatureView) → fs ≡ [] → ss ≡ [] → IsWhole (record { formats = fs; signatures = ss; priorities = [] })
IsWhole-none fs ss formats signatures = rw (formats, signatures) (record {
  limits = record {
    formats = omega arith;
    signatures = omega arith;
    puids = All-nil _;
    different_puids = tt;
    each = All-nil _;
    different_numbers = tt;
    in_order = tt;
    priorities = no_priorities 0;
  };
  has_all = λ f lt. absurd (omega arith);
})
