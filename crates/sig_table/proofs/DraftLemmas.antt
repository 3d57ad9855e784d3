-- What a draft's sets say of its lists.
use Rattle.std.proofs.Common.{◌≡◌, ℕ, suc, ◌+◌, ◌<◌, ◌≤◌, Bool, true, false, not, cond, nat_eq, nat_lt, tests, ◌||◌, List, [], ◌∷◌, ◌++◌, length, map, get_or}
use Rattle.std.proofs.Common.{sym, ap, subst, one-add, eq-eqb, Result, Ok, Err, ◌∙◌, refl, arith, rules, length-append, inl, inr, Some, None, position}
use Rattle.std.specs.Prelude.{slice_set, find, All, OnOk}
use Rattle.std.specs.List.{list_any, position_or_len}
use Rattle.std.proofs.lemmas.Bool.{cases_Bool}
use Rattle.std.specs.Result.{is_err}
use Rattle.std.proofs.lemmas.List.Elements.{All-head, All-tail}
use Rattle.std.proofs.lemmas.List.{map-append}
use Rattle.std.proofs.lemmas.List.Folds.{position_or_len_push}
use Rattle.indexmap.specs.IndexSet.{insert_key}
use Rattle.sig_table.specs.declared.puid.Puid.{Puid}
use Rattle.sig_table.specs.declared.puid.Registry.TheVariants.{Fmt, XFmt}
use Rattle.sig_table.specs.contracts.puid.PuidPartialEq.TheImpl.{eq-value}
use Rattle.sig_table.specs.Views.{SequenceView, SignatureView, TableView}
use Rattle.sig_table.specs.declared.row.Row.{Row}
use Rattle.sig_table.specs.Loading.{fault_at, fault_in, grown, with_number, with_row}
use Rattle.sig_table.specs.Puids.{puid_eq}

-- the derived `==` of PUIDs
puid_eq-same : (a b : Puid) → eq-value.it a b ≡ puid_eq a b
puid_eq-same a b = elim a.registry as (λ r. eq-value.it (record a { registry = r }) b ≡ puid_eq (record a { registry = r }) b) [
  | Fmt ↦ elim b.registry as (λ r. eq-value.it (record a { registry = Fmt }) (record b { registry = r }) ≡ puid_eq (record a { registry = Fmt })
      (record b { registry = r })) [ Fmt ↦ refl | XFmt ↦ refl ]
  | XFmt ↦ elim b.registry as (λ r. eq-value.it (record a { registry = XFmt }) (record b { registry = r }) ≡ puid_eq (record a { registry = XFmt })
      (record b { registry = r })) [ Fmt ↦ refl | XFmt ↦ refl ]
]

pub puid_eq-is : eq-value.it ≡ puid_eq
puid_eq-is = λ i. λ a b. puid_eq-same a b i

-- the place of a number among the signatures is its place among their numbers
pub position-numbers : (n : ℕ) (ss : List SignatureView) → position_or_len (nat_eq n) (map (λ s. s.number) ss) ≡ position_or_len (λ s. nat_eq n s.number) ss
position-numbers n [] = refl
position-numbers n (s ∷ ss) = ap (λ k. cond (not (nat_eq n s.number)) (1 + k) 0) (position-numbers n ss)

pub any-numbers : (n : ℕ) (ss : List SignatureView) → list_any (nat_eq n) (map (λ s. s.number) ss) ≡ list_any (λ s. nat_eq n s.number) ss
any-numbers n [] = refl
any-numbers n (s ∷ ss) = ap (λ b. nat_eq n s.number || b) (any-numbers n ss)

module _ {X : Type 0} (p : X → Bool) where
  -- what `find` gives, by its place
  pub find-place : (xs : List X) (x : X) → position_or_len p xs < length xs → x ≡ get_or xs (position_or_len p xs) x → find p xs ≡ Some x
  find-place [] x lt is = absurd (omega arith)
  find-place (y ∷ ys) x lt is = elim (cases_Bool (p y)) [
    | inl t ↦ rw t (ap (λ z. Some z) (sym (rw t at is)))
    | inr f ↦ rw f (find-place ys x (let h = rw f at lt in omega arith) (rw one-add at (rw f at is)))
  ]

  pub find-none : (xs : List X) → length xs ≤ position_or_len p xs → find p xs ≡ None
  find-none [] h = refl
  find-none (y ∷ ys) h = elim (cases_Bool (p y)) [
    | inl t ↦ absurd (let g = rw t at h in omega arith)
    | inr f ↦ rw f (find-none ys (let g = rw f at h in omega arith))
  ]

  -- an element that passes is within the list
  pub position-any : (xs : List X) → list_any p xs ≡ true → position_or_len p xs < length xs
  position-any [] h = absurd (cc h)
  position-any (y ∷ ys) h = elim (cases_Bool (p y)) [
    | inl t ↦ rw t (omega arith)
    | inr f ↦ rw f (let g = position-any ys (rw f at h) in omega arith)
  ]

  pub position-not_any : (xs : List X) → list_any p xs ≡ false → position_or_len p xs ≡ length xs
  position-not_any [] h = refl
  position-not_any (y ∷ ys) h = elim (cases_Bool (p y)) [
    | inl t ↦ absurd (cc (rw t at h))
    | inr f ↦ rw f (let g = position-not_any ys (rw f at h) in omega arith)
  ]

  -- what holds of each element holds of the one that is found
  pub All-find : (P : X → Type 0) (xs : List X) (x : X) → All P xs → find p xs ≡ Some x → P x
  All-find P [] x all h = absurd (cc h)
  All-find P (y ∷ ys) x all h = elim (cases_Bool (p y)) [
    | inl t ↦ let same : y ≡ x = cc (rw t at h) in subst P same (All-head P y ys all)
    | inr f ↦ All-find P ys x (All-tail P y ys all) (rw f at h)
  ]

-- one sequence more, by the place
pub grown-at : (n : ℕ) (sequence : SequenceView) (ss : List SignatureView) (s : SignatureView) → position_or_len (λ s. nat_eq n s.number) ss < length ss
    → s ≡ get_or ss (position_or_len (λ s. nat_eq n s.number) ss) s
    → slice_set ss (position_or_len (λ s. nat_eq n s.number) ss) (record s { sequences = s.sequences ++ sequence ∷ [] }) ≡ grown n sequence ss
grown-at n sequence [] s lt is = absurd (omega arith)
grown-at n sequence (x ∷ xs) s lt is = elim (cases_Bool (nat_eq n x.number)) [
  | inl t ↦ let same : s ≡ x = rw t at is in rw (t, same) refl
  | inr f ↦ rw (f, one-add) (ap (λ l. x ∷ l) (grown-at n sequence xs s (let h = rw f at lt in omega arith) (rw one-add at (rw f at is))))
]

pub OnOk-map : {T E P Q : Type 0} (r : Result T E) → (P → Q) → OnOk r P → OnOk r Q
OnOk-map (Ok x) f h = f h
OnOk-map (Err e) f h = tt

-- a signature more has its number last
pub numbers-grown : (n : ℕ) (sequence : SequenceView) (ss : List SignatureView) → map (λ s. s.number) (grown n sequence ss) ≡ map (λ s. s.number) ss
numbers-grown n sequence [] = refl
numbers-grown n sequence (x ∷ xs) = elim (cases_Bool (nat_eq n x.number)) [
  | inl t ↦ rw t refl
  | inr f ↦ rw f (ap (λ l. x.number ∷ l) (numbers-grown n sequence xs))
]

pub length-grown : (n : ℕ) (sequence : SequenceView) (ss : List SignatureView) → length (grown n sequence ss) ≡ length ss
length-grown n sequence [] = refl
length-grown n sequence (x ∷ xs) = elim (cases_Bool (nat_eq n x.number)) [
  | inl t ↦ rw t refl
  | inr f ↦ rw f (ap (λ l. suc l) (length-grown n sequence xs))
]

-- the place of a number once it is among the signatures
pub position-with_number : (n f : ℕ) (ss : List SignatureView)
    → position_or_len (λ s. nat_eq n s.number) (with_number ss n f) ≡ position_or_len (λ s. nat_eq n s.number) ss
position-with_number n f ss = elim (cases_Bool (list_any (λ s. nat_eq n s.number) ss)) [
  | inl t ↦ rw t refl
  | inr none ↦ rw none (let last = position-not_any (λ s. nat_eq n s.number) ss none in
      position_or_len_push (λ s. nat_eq n s.number) ss (record { format = f; number = n; sequences = [] })
      ∙ rw (eq-eqb (position_or_len (λ s. nat_eq n s.number) ss) (length ss) last, eq-eqb n n refl) (omega arith))
]

pub within-with_number : (n f : ℕ) (ss : List SignatureView) → position_or_len (λ s. nat_eq n s.number) ss < length (with_number ss n f)
within-with_number n f ss = elim (cases_Bool (list_any (λ s. nat_eq n s.number) ss)) [
  | inl t ↦ rw t (position-any (λ s. nat_eq n s.number) ss t)
  | inr none ↦ rw none (let last = position-not_any (λ s. nat_eq n s.number) ss none in omega (arith, length-append {A = SignatureView}))
]

pub numbers-with_number : (n f : ℕ) (ss : List SignatureView) → map (λ s. s.number) (with_number ss n f) ≡ insert_key nat_eq (map (λ s. s.number) ss) n
numbers-with_number n f ss = elim (cases_Bool (list_any (λ s. nat_eq n s.number) ss)) [
  | inl t ↦ rw (any-numbers, t) refl
  | inr none ↦ rw (any-numbers, none) (map-append _ ss _)
]

pub grown-by : (n : ℕ) (sequence : SequenceView) (ss : List SignatureView) (i : ℕ) (s v : SignatureView) → position_or_len (λ s. nat_eq n s.number) ss ≡ i
    → i < length ss → s ≡ get_or ss i s
    → v ≡ record s { sequences = s.sequences ++ sequence ∷ [] } → slice_set ss i v ≡ grown n sequence ss
grown-by n sequence ss i s v at lt is e = rw (e, ← at) (grown-at n sequence ss s (rw at lt) (rw at is))

-- a PUID more
pub length-insert_key : (ks : List Puid) (k : Puid) → length (insert_key puid_eq ks k) ≤ length ks + 1
length-insert_key ks k = elim (cases_Bool (list_any (puid_eq k) ks)) [
  | inl t ↦ rw t (omega arith)
  | inr f ↦ rw f (omega (arith, length-append {A = Puid}))
]

pub length-insert_key-ge : (ks : List Puid) (k : Puid) → length ks ≤ length (insert_key puid_eq ks k)
length-insert_key-ge ks k = elim (cases_Bool (list_any (puid_eq k) ks)) [
  | inl t ↦ rw t (omega arith)
  | inr f ↦ rw f (omega (arith, length-append {A = Puid}))
]

pub position-insert_key : (ks : List Puid) (k : Puid) → position_or_len (puid_eq k) ks < length (insert_key puid_eq ks k)
position-insert_key ks k = elim (cases_Bool (list_any (puid_eq k) ks)) [
  | inl t ↦ rw t (position-any (puid_eq k) ks t)
  | inr f ↦ rw f (let last = position-not_any (puid_eq k) ks f in omega (arith, length-append {A = Puid}))
]

-- whether one passes, by what `find` gives
pub any-none : {X : Type 0} (p : X → Bool) (xs : List X) → find p xs ≡ None → list_any p xs ≡ false
any-none p [] h = refl
any-none p (y ∷ ys) h = elim (cases_Bool (p y)) [
  | inl t ↦ absurd (cc (rw t at h))
  | inr f ↦ rw f (any-none p ys (rw f at h))
]

pub any-some : {X : Type 0} (p : X → Bool) (xs : List X) (x : X) → find p xs ≡ Some x → list_any p xs ≡ true
any-some p [] x h = absurd (cc h)
any-some p (y ∷ ys) x h = elim (cases_Bool (p y)) [
  | inl t ↦ rw t refl
  | inr f ↦ rw f (any-some p ys x (rw f at h))
]

pub any-within : {X : Type 0} (p : X → Bool) (xs : List X) → position_or_len p xs < length xs → list_any p xs ≡ true
any-within p xs lt = elim (cases_Bool (list_any p xs)) [
  | inl t ↦ t
  | inr f ↦ absurd (let last = position-not_any p xs f in omega arith)
]

pub with_row-is : (t : TableView) (row : Row) (fs : List Puid) (ss : List SignatureView)
    → fs ≡ insert_key puid_eq t.formats row.puid
    → ss ≡ grown row.number row.sequence (with_number t.signatures row.number (position_or_len (puid_eq row.puid) t.formats))
    → (let new : TableView = record { formats = fs; signatures = ss; priorities = t.priorities } in new ≡ with_row t row)
unfolding with_row
with_row-is t row fs ss formats signatures = rw (formats, signatures) refl

-- the numbers with the row
pub numbers-with_row : (n f : ℕ) (sequence : SequenceView) (ks js : List ℕ) (ss vs : List SignatureView) → ks ≡ map (λ s. s.number) ss
    → js ≡ insert_key nat_eq ks n → vs ≡ grown n sequence (with_number ss n f) → js ≡ map (λ s. s.number) vs
numbers-with_row n f sequence ks js ss vs numbers added grew =
    added ∙ ap (λ l. insert_key nat_eq l n) numbers ∙ sym (ap (λ l. map (λ s. s.number) l) grew ∙ numbers-grown n sequence (with_number ss n f)
    ∙ numbers-with_number n f ss)

-- where the number is among the signatures
pub place-of : (n f place : ℕ) (ks : List ℕ) (ss vs : List SignatureView) → ks ≡ map (λ s. s.number) ss → place ≡ position_or_len (nat_eq n) ks
    → vs ≡ with_number ss n f → position_or_len (λ s. nat_eq n s.number) vs ≡ place
place-of n f place ks ss vs numbers at enrolled =
    rw enrolled (position-with_number n f ss ∙ sym (position-numbers n ss) ∙ ap (λ l. position_or_len (nat_eq n) l) (sym numbers) ∙ sym at)

pub place-within : (n f place : ℕ) (ks : List ℕ) (ss vs : List SignatureView) → ks ≡ map (λ s. s.number) ss → place ≡ position_or_len (nat_eq n) ks
    → vs ≡ with_number ss n f → place < length vs
place-within n f place ks ss vs numbers at enrolled =
    rw (enrolled, at, numbers, position-numbers n ss) (within-with_number n f ss)

pub OnOk-holds : {T E P : Type 0} (r : Result T E) → is_err r ≡ false → OnOk r P → P
OnOk-holds (Ok x) e h = h
OnOk-holds (Err x) e h = absurd (cc e)

-- the place by the derived `==`
pub position-puid : (k : Puid) (ks : List Puid) → position_or_len (eq-value.it k) ks ≡ position_or_len (puid_eq k) ks
position-puid k ks = ap (λ e. position_or_len (e k) ks) puid_eq-is

pub any-puid : (k : Puid) (ks : List Puid) → list_any (eq-value.it k) ks ≡ list_any (puid_eq k) ks
any-puid k ks = ap (λ e. list_any (e k) ks) puid_eq-is

-- what `position` says
found-at : {X : Type 0} (p : X → Bool) (xs : List X) (i : ℕ) → position p xs ≡ Some i → (position_or_len p xs ≡ i) × (position_or_len p xs < length xs)
found-at p xs i h = elim (cases_Bool (nat_lt (position_or_len p xs) (length xs))) [
  | inl t ↦ (cc (rw t at h), search (rules, tests))
  | inr f ↦ absurd (cc (rw f at h))
]

not_found : {X : Type 0} (p : X → Bool) (xs : List X) → position p xs ≡ None → length xs ≤ position_or_len p xs
not_found p xs h = elim (cases_Bool (nat_lt (position_or_len p xs) (length xs))) [
  | inl t ↦ absurd (cc (rw t at h))
  | inr f ↦ search (rules, tests)
]

length-numbers : (ss : List SignatureView) → length (map (λ s. s.number) ss) ≡ length ss
length-numbers [] = refl
length-numbers (s ∷ ss) = ap (λ k. suc k) (length-numbers ss)

-- the fault of a row, where its number is among the signatures or not
pub fault_in-new : (t : TableView) (n : ℕ) (row : Row) (ks : List ℕ) → ks ≡ map (λ s. s.number) t.signatures → position (nat_eq row.number) ks ≡ None
    → fault_in t n row ≡ fault_at None t n row
unfolding fault_in
fault_in-new t n row ks numbers h =
    let past = not_found (nat_eq row.number) (map (λ s. s.number) t.signatures) (rw numbers at h) in
    let beyond : length t.signatures ≤ position_or_len (λ s. nat_eq row.number s.number) t.signatures =
    rw (length-numbers, position-numbers row.number t.signatures) at past in
    ap (λ o. fault_at o t n row) (find-none (λ s. nat_eq row.number s.number) t.signatures beyond)

pub fault_in-found : (t : TableView) (n : ℕ) (row : Row) (ks : List ℕ) (i : ℕ) (s : SignatureView) → ks ≡ map (λ s. s.number) t.signatures
    → position (nat_eq row.number) ks ≡ Some i → s ≡ get_or t.signatures i s → fault_in t n row ≡ fault_at (Some s) t n row
unfolding fault_in
fault_in-found t n row ks i s numbers h is =
    let at = found-at (nat_eq row.number) (map (λ s. s.number) t.signatures) i (rw numbers at h) in
    let place : position_or_len (λ s. nat_eq row.number s.number) t.signatures ≡ i = sym (position-numbers row.number t.signatures) ∙ at.0 in
    let within : position_or_len (λ s. nat_eq row.number s.number) t.signatures < length t.signatures =
    rw (length-numbers, position-numbers row.number t.signatures) at at.1 in
    ap (λ o. fault_at o t n row) (find-place (λ s. nat_eq row.number s.number) t.signatures s within (rw place is))
