-- A table that grows row by row is the table of all its rows.
use Rattle.std.proofs.Common.{◌≡◌, ℕ, ◌+◌, Bool, true, false, not, cond, nat_eq, ◌||◌, List, [], ◌∷◌, ◌++◌, length, map, filter, sym, ap, subst, eq-eqb, ◌∙◌}
use Rattle.std.proofs.Common.{refl, arith, inl, inr, append-nil}
use Rattle.std.specs.Prelude.{⊤, Contains, get_or}
use Rattle.std.specs.List.{list_any, position_or_len}
use Rattle.std.proofs.lemmas.Bool.{cases_Bool, eqb-true}
use Rattle.std.proofs.lemmas.List.{get_or-map, length-map, map-append}
use Rattle.std.proofs.lemmas.List.Elements.{filter-append}
use Rattle.std.proofs.lemmas.List.Folds.{list_any_at}
use Rattle.indexmap.specs.IndexSet.{insert_key}
use Rattle.sig_table.specs.declared.puid.Puid.{Puid}
use Rattle.sig_table.specs.declared.puid.Registry.{Registry}
use Rattle.sig_table.specs.declared.puid.Registry.TheVariants.{Fmt, XFmt}
use Rattle.sig_table.specs.declared.row.Row.{Row}
use Rattle.sig_table.specs.Gathered.{first_format, firsts, formats_of, gathered, numbers_of, rows_of, signature_of}
use Rattle.sig_table.specs.Views.{SequenceView, SignatureView}
use Rattle.sig_table.specs.Loading.{grown, with_number, with_row}
use Rattle.sig_table.specs.Puids.{puid_eq}
use Rattle.sig_table.proofs.DraftLemmas.{any-numbers, position-not_any}

or-right-true : (a b : Bool) → b ≡ true → (a || b) ≡ true
or-right-true true b h = refl
or-right-true false b h = h

module _ {A : Type 0} (eq : A → A → Bool) (same : (x y : A) → eq x y ≡ true → x ≡ y) (self : (x : A) → eq x x ≡ true) where
  -- taking out another member leaves the answer
  any-filter : (k x : A) (zs : List A) → eq k x ≡ false → list_any (eq k) (filter (λ y. not (eq x y)) zs) ≡ list_any (eq k) zs
  any-filter k x [] h = refl
  any-filter k x (z ∷ zs) h = elim (cases_Bool (eq x z)) [
    | inl t ↦ let is : x ≡ z = same x z t in rw t (any-filter k x zs h ∙ sym (rw (subst (λ y. eq k y ≡ false) is h) refl))
    | inr f ↦ rw f (ap (λ b. eq k z || b) (any-filter k x zs h))
  ]

  -- the different members are those of the list
  pub any-firsts : (k : A) (xs : List A) → list_any (eq k) (firsts eq xs) ≡ list_any (eq k) xs
  any-firsts k [] = refl
  any-firsts k (x ∷ xs) = elim (cases_Bool (eq k x)) [
    | inl t ↦ rw t refl
    | inr f ↦ rw f (any-filter k x (firsts eq xs) f ∙ any-firsts k xs)
  ]

  filter-last : (x k : A) (zs : List A) → filter (λ y. not (eq x y)) (zs ++ k ∷ []) ≡ filter (λ y. not (eq x y)) zs ++ cond (not (eq x k)) (k ∷ []) []
  filter-last x k zs = filter-append (λ y. not (eq x y)) zs (k ∷ [])

  -- one member more
  pub firsts-append : (xs : List A) (k : A) → firsts eq (xs ++ k ∷ []) ≡ insert_key eq (firsts eq xs) k
  firsts-append [] k = refl
  firsts-append (x ∷ xs) k = elim (cases_Bool (eq k x)) [
    | inl t ↦
        let is : k ≡ x = same k x t in
        let back : eq x k ≡ true = subst (λ y. eq x y ≡ true) (sym is) (self x) in
        rw (firsts-append xs k) (elim (cases_Bool (list_any (eq k) (firsts eq xs))) [
          | inl there ↦ rw (there, t) refl
          | inr other ↦ rw (other, t) (ap (λ l. x ∷ l) (filter-last x k (firsts eq xs) ∙ rw back (append-nil _)))
        ])
    | inr f ↦
        let back : eq x k ≡ false = elim (cases_Bool (eq x k)) [
          | inl t ↦ absurd (cc (sym (subst (λ y. eq k y ≡ true) (sym (same x k t)) (self k)) ∙ f))
          | inr g ↦ g
        ] in
        rw (firsts-append xs k) (elim (cases_Bool (list_any (eq k) (firsts eq xs))) [
          | inl there ↦ rw (there, f, any-filter k x (firsts eq xs) f, there) refl
          | inr other ↦ rw (other, f, any-filter k x (firsts eq xs) f, other) (ap (λ l. x ∷ l) (filter-last x k (firsts eq xs) ∙ rw back refl))
        ])
  ]

  -- no member stands twice
  abbrev pub Once : List A → Type 0
  Once [] = ⊤
  Once (x ∷ xs) = (list_any (eq x) xs ≡ false) × Once xs

  any-left : (p : A → Bool) (x : A) (zs : List A) → list_any (eq x) zs ≡ false → list_any (eq x) (filter p zs) ≡ false
  any-left p x [] h = refl
  any-left p x (z ∷ zs) h = elim (cases_Bool (eq x z)) [
    | inl t ↦ absurd (cc (rw t at h))
    | inr f ↦ elim (cases_Bool (p z)) [
      | inl kept ↦ rw (kept, f) (any-left p x zs (rw f at h))
      | inr taken ↦ rw taken (any-left p x zs (rw f at h))
    ]
  ]

  Once-filter : (p : A → Bool) (zs : List A) → Once zs → Once (filter p zs)
  Once-filter p [] h = tt
  Once-filter p (z ∷ zs) h = elim (cases_Bool (p z)) [
    | inl kept ↦ rw kept (any-left p z zs h.0, Once-filter p zs h.1)
    | inr taken ↦ rw taken (Once-filter p zs h.1)
  ]

  any-taken : (x : A) (zs : List A) → list_any (eq x) (filter (λ y. not (eq x y)) zs) ≡ false
  any-taken x [] = refl
  any-taken x (z ∷ zs) = elim (cases_Bool (eq x z)) [
    | inl t ↦ rw t (any-taken x zs)
    | inr f ↦ rw (f, f) (any-taken x zs)
  ]

  pub Once-firsts : (xs : List A) → Once (firsts eq xs)
  Once-firsts [] = tt
  Once-firsts (x ∷ xs) = (any-taken x (firsts eq xs), Once-filter (λ y. not (eq x y)) (firsts eq xs) (Once-firsts xs))

-- equal numbers, and equal PUIDs
number_self : (n : ℕ) → nat_eq n n ≡ true
number_self n = eq-eqb n n refl

pub number_same : (m n : ℕ) → nat_eq m n ≡ true → m ≡ n
number_same m n h = eqb-true m n h

pub puid_self : (p : Puid) → puid_eq p p ≡ true
puid_self p = elim p.registry as (λ r. puid_eq (record p { registry = r }) (record p { registry = r }) ≡ true) [
  | Fmt ↦ number_self p.number
  | XFmt ↦ number_self p.number
]

puid_of : (r s : Registry) (m n : ℕ) → let p : Puid = record { registry = r; number = m } in let q : Puid = record { registry = s; number = n } in
    puid_eq p q ≡ true → p ≡ q
puid_of Fmt Fmt m n h = ap (λ k. let p : Puid = record { registry = Fmt; number = k } in p) (number_same m n h)
puid_of Fmt XFmt m n h = absurd (cc h)
puid_of XFmt Fmt m n h = absurd (cc h)
puid_of XFmt XFmt m n h = ap (λ k. let p : Puid = record { registry = XFmt; number = k } in p) (number_same m n h)

pub puid_same : (p q : Puid) → puid_eq p q ≡ true → p ≡ q
puid_same p q h = puid_of p.registry q.registry p.number q.number h

-- the formats and the numbers of one row more
pub formats_of-append : (rows : List Row) (row : Row) → formats_of (rows ++ row ∷ []) ≡ insert_key puid_eq (formats_of rows) row.puid
formats_of-append rows row = ap (firsts puid_eq) (map-append (λ r. r.puid) rows (row ∷ [])) ∙ firsts-append puid_eq puid_same puid_self (map (λ r. r.puid) rows)
    row.puid

pub numbers_of-append : (rows : List Row) (row : Row) → numbers_of (rows ++ row ∷ []) ≡ insert_key nat_eq (numbers_of rows) row.number
numbers_of-append rows row = ap (firsts nat_eq) (map-append (λ r. r.number) rows (row ∷ [])) ∙ firsts-append nat_eq number_same number_self
    (map (λ r. r.number) rows) row.number

-- the place of what is there stays
position-append : {X : Type 0} (p : X → Bool) (xs ys : List X) → list_any p xs ≡ true → position_or_len p (xs ++ ys) ≡ position_or_len p xs
position-append p [] ys h = absurd (cc h)
position-append p (x ∷ xs) ys h = elim (cases_Bool (p x)) [
  | inl t ↦ rw t refl
  | inr f ↦ rw f (ap (λ k. 1 + k) (position-append p xs ys (rw f at h)))
]

position-last : {X : Type 0} (p : X → Bool) (xs : List X) (x : X) → list_any p xs ≡ false → p x ≡ true → position_or_len p (xs ++ x ∷ []) ≡ length xs
position-last p [] x h at = rw at refl
position-last p (y ∷ ys) x h at = elim (cases_Bool (p y)) [
  | inl t ↦ absurd (cc (rw t at h))
  | inr f ↦ rw (f, position-last p ys x (rw f at h) at) (omega arith)
]

-- a PUID that is there stays in its place, and so does one that is added, counted past the end before
position-there : (q k : Puid) (fs : List Puid) → list_any (puid_eq q) fs ≡ true
    → position_or_len (puid_eq q) (insert_key puid_eq fs k) ≡ position_or_len (puid_eq q) fs
position-there q k fs h = elim (cases_Bool (list_any (puid_eq k) fs)) [
  | inl t ↦ rw t refl
  | inr f ↦ rw f (position-append (puid_eq q) fs (k ∷ []) h)
]

position-added : (k : Puid) (fs : List Puid) → position_or_len (puid_eq k) (insert_key puid_eq fs k) ≡ position_or_len (puid_eq k) fs
position-added k fs = elim (cases_Bool (list_any (puid_eq k) fs)) [
  | inl t ↦ rw t refl
  | inr f ↦ rw f (position-last (puid_eq k) fs k f (puid_self k) ∙ sym (position-not_any (puid_eq k) fs f))
]

-- the format of the first of some rows, by lists that have its PUID in the same place
first_format-same : (fs gs : List Puid) (n : ℕ) (rows : List Row)
    → ((q : Puid) → list_any (puid_eq q) (map (λ r. r.puid) rows) ≡ true → position_or_len (puid_eq q) fs ≡ position_or_len (puid_eq q) gs)
    → first_format fs (rows_of n rows) ≡ first_format gs (rows_of n rows)
first_format-same fs gs n [] h = refl
first_format-same fs gs n (row ∷ rows) h = elim (cases_Bool (nat_eq n row.number)) [
  | inl t ↦ rw t (h row.puid (rw (puid_self row.puid) refl))
  | inr f ↦ rw f (first_format-same fs gs n rows (λ q there. h q (or-right-true (puid_eq q row.puid) _ there)))
]

-- a first row stays the first
first_format-append : (fs : List Puid) (n : ℕ) (rows more : List Row) → list_any (nat_eq n) (map (λ r. r.number) rows) ≡ true
    → first_format fs (rows_of n rows ++ more) ≡ first_format fs (rows_of n rows)
first_format-append fs n [] more h = absurd (cc h)
first_format-append fs n (row ∷ rows) more h = elim (cases_Bool (nat_eq n row.number)) [
  | inl t ↦ rw t refl
  | inr f ↦ rw f (first_format-append fs n rows more (rw f at h))
]

-- a number that no row has
pub rows_of-none : (n : ℕ) (rows : List Row) → list_any (nat_eq n) (map (λ r. r.number) rows) ≡ false → rows_of n rows ≡ []
rows_of-none n [] h = refl
rows_of-none n (row ∷ rows) h = elim (cases_Bool (nat_eq n row.number)) [
  | inl t ↦ absurd (cc (rw t at h))
  | inr f ↦ rw f (rows_of-none n rows (rw f at h))
]

pub rows_of-append : (n : ℕ) (rows : List Row) (row : Row) → rows_of n (rows ++ row ∷ []) ≡ rows_of n rows ++ cond (nat_eq n row.number) (row ∷ []) []
rows_of-append n rows row = filter-append (λ r. nat_eq n r.number) rows (row ∷ [])

-- the formats of earlier rows, by the formats with one row more
format-stays : (n : ℕ) (rows : List Row) (row : Row) → first_format (formats_of (rows ++ row ∷ [])) (rows_of n rows) ≡ first_format (formats_of rows)
    (rows_of n rows)
format-stays n rows row =
    first_format-same (formats_of (rows ++ row ∷ [])) (formats_of rows) n rows (λ q there.
    ap (position_or_len (puid_eq q)) (formats_of-append rows row)
    ∙ position-there q row.puid (formats_of rows) (any-firsts puid_eq puid_same puid_self q (map (λ r. r.puid) rows) ∙ there))

-- the signature of another number stays
signature-stays : (n : ℕ) (rows : List Row) (row : Row) → nat_eq n row.number ≡ false → signature_of (rows ++ row ∷ []) n ≡ signature_of rows n
signature-stays n rows row other =
    let same : rows_of n (rows ++ row ∷ []) ≡ rows_of n rows = rows_of-append n rows row ∙ rw other (append-nil (rows_of n rows)) in
    rw (same, format-stays n rows row) refl

-- that of the row's number has its sequence more
signature-grows : (rows : List Row) (row : Row) → list_any (nat_eq row.number) (map (λ r. r.number) rows) ≡ true
    → signature_of (rows ++ row ∷ []) row.number ≡ record (signature_of rows row.number)
    { sequences = map (λ r. r.sequence) (rows_of row.number rows) ++ row.sequence ∷ [] }
signature-grows rows row there =
    let more : rows_of row.number (rows ++ row ∷ []) ≡ rows_of row.number rows ++ row ∷ [] =
    rows_of-append row.number rows row ∙ rw (number_self row.number) refl in
    rw (
      more,
      first_format-append (formats_of (rows ++ row ∷ [])) row.number rows (row ∷ []) there,
      format-stays row.number rows row,
      map-append (λ r. r.sequence) (rows_of row.number rows) (row ∷ []),
    ) refl

-- and one that is new has it alone
signature-begins : (rows : List Row) (row : Row) → list_any (nat_eq row.number) (map (λ r. r.number) rows) ≡ false
    → signature_of (rows ++ row ∷ []) row.number ≡ record {
      format = position_or_len (puid_eq row.puid) (formats_of rows);
      number = row.number;
      sequences =
          row.sequence ∷ [];
    }
signature-begins rows row none =
    let one : rows_of row.number (rows ++ row ∷ []) ≡ row ∷ [] =
    rows_of-append row.number rows row ∙ rw (number_self row.number, rows_of-none row.number rows none) refl in
    rw (one, formats_of-append rows row, position-added row.puid (formats_of rows)) refl

-- signatures of other numbers stay
signatures-stay : (rows : List Row) (row : Row) (ms : List ℕ) → list_any (nat_eq row.number) ms ≡ false
    → map (signature_of (rows ++ row ∷ [])) ms ≡ map (signature_of rows) ms
signatures-stay rows row [] h = refl
signatures-stay rows row (m ∷ ms) h = elim (cases_Bool (nat_eq row.number m)) [
  | inl t ↦ absurd (cc (rw t at h))
  | inr f ↦
      let other : nat_eq m row.number ≡ false = elim (cases_Bool (nat_eq m row.number)) [
        | inl t ↦ absurd (cc (sym (subst (λ k. nat_eq row.number k ≡ true) (sym (number_same m row.number t)) (number_self row.number)) ∙ f))
        | inr g ↦ g
      ] in
      rw (signature-stays m rows row other, signatures-stay rows row ms (rw f at h)) refl
]

-- a list of signatures grows where the number is
signatures-grow : (rows : List Row) (row : Row) (ms : List ℕ) → Once nat_eq number_same number_self ms
    → list_any (nat_eq row.number) (map (λ r. r.number) rows) ≡ true → list_any (nat_eq row.number) ms ≡ true
    → map (signature_of (rows ++ row ∷ [])) ms ≡ grown row.number row.sequence (map (signature_of rows) ms)
signatures-grow rows row [] once there h = absurd (cc h)
signatures-grow rows row (m ∷ ms) once there h = elim (cases_Bool (nat_eq row.number m)) [
  | inl t ↦
      let is : row.number ≡ m = number_same row.number m t in
      let rest = signatures-stay rows row ms (subst (λ k. list_any (nat_eq k) ms ≡ false) (sym is) once.0) in
      rw (t, rest) (ap (λ s. s ∷ map (signature_of rows) ms) (subst
      (λ k. signature_of (rows ++ row ∷ []) k ≡ record (signature_of rows k) { sequences = map (λ r. r.sequence) (rows_of k rows) ++ row.sequence ∷ [] }) is
      (signature-grows rows row there)))
  | inr f ↦
      let other : nat_eq m row.number ≡ false = elim (cases_Bool (nat_eq m row.number)) [
        | inl t ↦ absurd (cc (sym (subst (λ k. nat_eq row.number k ≡ true) (sym (number_same m row.number t)) (number_self row.number)) ∙ f))
        | inr g ↦ g
      ] in
      rw (f, signature-stays m rows row other, signatures-grow rows row ms once.1 there (rw f at h)) refl
]

-- a signature that is last grows where no other has its number
grown-last : (n : ℕ) (sequence : SequenceView) (ss : List SignatureView) (s : SignatureView) → list_any (λ x. nat_eq n x.number) ss ≡ false
    → nat_eq n s.number ≡ true
    → grown n sequence (ss ++ s ∷ []) ≡ ss ++ record s { sequences = s.sequences ++ sequence ∷ [] } ∷ []
grown-last n sequence [] s none at = rw at refl
grown-last n sequence (x ∷ xs) s none at = elim (cases_Bool (nat_eq n x.number)) [
  | inl t ↦ absurd (cc (rw t at none))
  | inr f ↦ rw f (ap (λ l. x ∷ l) (grown-last n sequence xs s (rw f at none) at))
]

-- the numbers of the signatures
numbers-map : (rows : List Row) (ms : List ℕ) → map (λ s. s.number) (map (signature_of rows) ms) ≡ ms
numbers-map rows [] = refl
numbers-map rows (m ∷ ms) = ap (λ l. m ∷ l) (numbers-map rows ms)

pub any-signature : (rows : List Row) (n : ℕ) → list_any (λ s. nat_eq n s.number) (map (signature_of rows) (numbers_of rows)) ≡ list_any (nat_eq n)
    (map (λ r. r.number) rows)
any-signature rows n =
    sym (any-numbers n (map (signature_of rows) (numbers_of rows)))
    ∙ ap (list_any (nat_eq n)) (numbers-map rows (numbers_of rows))
    ∙ any-firsts nat_eq number_same number_self n (map (λ r. r.number) rows)

-- the signatures of one row more
signatures-append : (rows : List Row) (row : Row) → map (signature_of (rows ++ row ∷ [])) (numbers_of (rows ++ row ∷ []))
    ≡ grown row.number row.sequence (with_number (map (signature_of rows) (numbers_of rows)) row.number (position_or_len (puid_eq row.puid) (formats_of rows)))
signatures-append rows row =
    let among : list_any (nat_eq row.number) (numbers_of rows) ≡ list_any (nat_eq row.number) (map (λ r. r.number) rows) =
    any-firsts nat_eq number_same number_self row.number (map (λ r. r.number) rows) in
    elim (cases_Bool (list_any (nat_eq row.number) (map (λ r. r.number) rows))) [
      | inl t ↦ rw (numbers_of-append rows row, among, any-signature rows row.number, t)
          (signatures-grow rows row (numbers_of rows) (Once-firsts nat_eq number_same number_self (map (λ r. r.number) rows)) t (among ∙ t))
      | inr f ↦ rw (numbers_of-append rows row, among, any-signature rows row.number, f)
          (map-append (signature_of (rows ++ row ∷ [])) (numbers_of rows) (row.number ∷ [])
          ∙ rw (signatures-stay rows row (numbers_of rows) (among ∙ f), signature-begins rows row f)
          (sym (grown-last row.number row.sequence (map (signature_of rows) (numbers_of rows)) _ (any-signature rows row.number ∙ f) (number_self row.number))))
    ]

-- the table of one row more
pub gathered-append : (rows : List Row) (row : Row) → gathered (rows ++ row ∷ []) ≡ with_row (gathered rows) row
unfolding with_row
gathered-append rows row = rw (signatures-append rows row, formats_of-append rows row) refl

-- a row that is there has its number and its PUID there
any-member : {X : Type 0} (eq : X → X → Bool) → ((x : X) → eq x x ≡ true) → (f : Row → X) (row : Row) (rows : List Row) → Contains rows row
    → list_any (eq (f row)) (map f rows) ≡ true
any-member eq self f row rows c =
    let at : get_or (map f rows) c.0 (f row) ≡ f row = get_or-map f rows c.0 row (f row) c.1 ∙ ap f c.2 in
    list_any_at (eq (f row)) (map f rows) c.0 (f row) (rw length-map c.1) (rw at (self (f row)))

pub any-number : (row : Row) (rows : List Row) → Contains rows row → list_any (nat_eq row.number) (map (λ r. r.number) rows) ≡ true
any-number row rows c = any-member nat_eq number_self (λ r. r.number) row rows c

pub any-puid_of : (row : Row) (rows : List Row) → Contains rows row → list_any (puid_eq row.puid) (formats_of rows) ≡ true
any-puid_of row rows c = any-firsts puid_eq puid_same puid_self row.puid (map (λ r. r.puid) rows) ∙ any-member puid_eq puid_self (λ r. r.puid) row rows c

pub any-numbers_of : (rows : List Row) (n : ℕ) → list_any (nat_eq n) (numbers_of rows) ≡ list_any (nat_eq n) (map (λ r. r.number) rows)
any-numbers_of rows n = any-firsts nat_eq number_same number_self n (map (λ r. r.number) rows)
