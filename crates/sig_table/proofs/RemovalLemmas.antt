-- What holds of a table holds of it without the signatures of a format.
use Rattle.std.proofs.Common.{◌≡◌, ◌⊎◌, ℕ, zero, suc, ◌<◌, ◌≤◌, Bool, true, false, List, [], ◌∷◌, ◌++◌, length, map, not, nat_eq, refl, sym, ap, ◌∙◌, arith}
use Rattle.std.proofs.Common.{inl, inr, Some, None, nat_lt, position, tests, rules, get_or}
use Rattle.std.specs.Prelude.{Contains, filter}
use Rattle.std.specs.List.{position_or_len}
use Rattle.std.proofs.lemmas.Bool.{cases_Bool, false≢true}
use Rattle.std.proofs.lemmas.Bool.Decides.{Decides-eqb}
use Rattle.std.proofs.lemmas.List.{append-nil}
use Rattle.std.proofs.lemmas.List.Elements.{All-filter, filter-append}
use Rattle.std.proofs.lemmas.List.Quantifiers.{position-Some}
use Rattle.std.proofs.lemmas.List.Sums.{count_by-le-length, fails_before_first, length-filter}
use Rattle.sig_table.specs.declared.puid.Puid.{Puid}
use Rattle.sig_table.specs.declared.puid.Registry.TheVariants.{Fmt, XFmt}
use Rattle.sig_table.proofs.LimitLemmas.{puid_eq-itself}
use Rattle.sig_table.specs.Views.{SignatureView, TableView}
use Rattle.sig_table.specs.Puids.{puid_eq}
use Rattle.sig_table.specs.Removal.{place_of, without}
use Rattle.sig_table.specs.Tables.{AllDifferent, FormatsRise, IsSignature, IsTable}

-- the first member, or a later one
Contains-cases : {A : Type 0} (y : A) (ys : List A) (x : A) → Contains (y ∷ ys) x → (y ≡ x) ⊎ Contains ys x
Contains-cases y ys x (zero, within, at) = inl at
Contains-cases y ys x (suc k, within, at) = inr (k, omega (arith, within), at)

Contains-later : {A : Type 0} (y : A) (ys : List A) (x : A) → Contains ys x → Contains (y ∷ ys) x
Contains-later y ys x c = (suc c.0, let within = c.1 in omega (arith, within), c.2)

-- a member that passes the test is kept
pub Contains-filter : {A : Type 0} (p : A → Bool) (xs : List A) (x : A) → p x ≡ true → Contains xs x → Contains (filter p xs) x
Contains-filter p [] x passes c = absurd (let within = c.1 in omega arith)
Contains-filter p (y ∷ ys) x passes c = elim (cases_Bool (p y)) [
  | inl t ↦ rw t (elim (Contains-cases y ys x c) [
    | inl same ↦ (0, omega arith, same)
    | inr later ↦ Contains-later y (filter p ys) x (Contains-filter p ys x passes later)
  ])
  | inr out ↦ rw out (elim (Contains-cases y ys x c) [
    | inl same ↦ absurd (false≢true (sym out ∙ (ap (λ z. p z) same ∙ passes)))
    | inr later ↦ Contains-filter p ys x passes later
  ])
]

-- and what is kept was a member
pub Contains-filtered : {A B : Type 0} (f : A → B) (p : A → Bool) (xs : List A) (y : B) → Contains (map f (filter p xs)) y → Contains (map f xs) y
Contains-filtered f p [] y c = c
Contains-filtered f p (x ∷ xs) y c = elim (cases_Bool (p x)) [
  | inl t ↦ elim (Contains-cases (f x) (map f (filter p xs)) y (rw t at c)) [
    | inl same ↦ (0, omega arith, same)
    | inr later ↦ Contains-later (f x) (map f xs) y (Contains-filtered f p xs y later)
  ]
  | inr out ↦ Contains-later (f x) (map f xs) y (Contains-filtered f p xs y (rw out at c))
]

-- different members stay different
pub AllDifferent-filter : {A B : Type 0} (f : A → B) (p : A → Bool) (xs : List A) → AllDifferent (map f xs) → AllDifferent (map f (filter p xs))
AllDifferent-filter f p [] all = all
AllDifferent-filter f p (x ∷ xs) all = elim (cases_Bool (p x)) [
  | inl t ↦ rw t (λ c. all.0 (Contains-filtered f p xs (f x) c), AllDifferent-filter f p xs all.1)
  | inr out ↦ rw out (AllDifferent-filter f p xs all.1)
]

-- the formats that are kept rise as they did
pub FormatsRise-filter : (q : ℕ → Bool) (met fs : List ℕ) → FormatsRise met fs → FormatsRise (filter q met) (filter q fs)
FormatsRise-filter q met [] rise = rise
FormatsRise-filter q met (f ∷ later) rise =
    let next : FormatsRise (filter q (met ++ f ∷ [])) (filter q later) = FormatsRise-filter q (met ++ f ∷ []) later rise.1 in
    elim (cases_Bool (q f)) [
      | inl t ↦ (
          let kept : FormatsRise (filter q met ++ f ∷ []) (filter q later) = rw t at (rw filter-append at next) in
          rw t (
            elim rise.0 [
              | inl there ↦ inl (Contains-filter q met f t there)
              | inr above ↦ inr (All-filter q (λ g. g < f) met above)
            ],
            kept,
          )
          )
      | inr out ↦ (
          let kept : FormatsRise (filter q met) (filter q later) = rw append-nil at (rw out at (rw filter-append at next)) in
          rw out kept
          )
    ]

-- the formats of the signatures that are kept
pub map-filter : {A B : Type 0} (f : A → B) (q : B → Bool) (xs : List A) → map f (filter (λ x. q (f x)) xs) ≡ filter q (map f xs)
map-filter f q [] = refl
map-filter f q (x ∷ xs) = elim (cases_Bool (q (f x))) [
  | inl t ↦ rw t (ap (λ l. f x ∷ l) (map-filter f q xs))
  | inr out ↦ rw out (map-filter f q xs)
]

-- a table stays a table
pub IsTable-without : (t : TableView) (format : ℕ) → IsTable t → IsTable (without t format)
IsTable-without t format table =
    let test : SignatureView → Bool = λ s. not (nat_eq s.format format) in
    let signatures = table.signatures in
    record {
      formats = table.formats;
      signatures = omega (arith, signatures, length-filter test t.signatures, count_by-le-length test t.signatures);
      puids = table.puids;
      different_puids = table.different_puids;
      each = All-filter test (IsSignature (length t.formats)) t.signatures table.each;
      different_numbers = AllDifferent-filter (λ (s : SignatureView). s.number) test t.signatures table.different_numbers;
      in_order = rw (map-filter (λ (s : SignatureView). s.format) (λ n. not (nat_eq n format)) t.signatures)
          (FormatsRise-filter (λ n. not (nat_eq n format)) [] (map (λ s. s.format) t.signatures) table.in_order);
      priorities = table.priorities;
    }

-- the place that `position` gives
position-place : {X : Type 0} (p : X → Bool) (xs : List X) (i : ℕ) → position p xs ≡ Some i → position_or_len p xs ≡ i
position-place p xs i found = elim (cases_Bool (nat_lt (position_or_len p xs) (length xs))) [
  | inl t ↦ cc (rw t at found)
  | inr out ↦ absurd (cc (rw out at found))
]

-- the table with the signatures that are kept, where the format stands at the place
pub without-is : (t : TableView) (kept : List SignatureView) (puid : Puid) (place : ℕ) → position (λ p. puid_eq p puid) t.formats ≡ Some place
    → kept ≡ filter (λ s. not (nat_eq s.format place)) t.signatures
    → record t { signatures = kept } ≡ without t (place_of t.formats puid)
without-is t kept puid place found is = rw (position-place (λ p. puid_eq p puid) t.formats place found)
    (ap (λ (l : List SignatureView). record t { signatures = l }) is)

-- names that the test takes for one are one
puid_eq-same : (a b : Puid) → puid_eq a b ≡ true → a ≡ b
puid_eq-same a b = elim a.registry as (λ r. puid_eq (record a { registry = r }) b ≡ true → record a { registry = r } ≡ b) [
  | Fmt ↦ elim b.registry as (λ r. puid_eq (record a { registry = Fmt }) (record b { registry = r }) ≡ true
      → record a { registry = Fmt } ≡ record b { registry = r }) [
        | Fmt ↦ λ t. ap (λ (n : ℕ). record { registry = Fmt; number = n }) ((Decides-eqb a.number b.number).0 t)
        | XFmt ↦ λ t. absurd (false≢true t)
      ]
  | XFmt ↦ elim b.registry as (λ r. puid_eq (record a { registry = XFmt }) (record b { registry = r }) ≡ true
      → record a { registry = XFmt } ≡ record b { registry = r }) [
        | Fmt ↦ λ t. absurd (false≢true t)
        | XFmt ↦ λ t. ap (λ (n : ℕ). record { registry = XFmt; number = n }) ((Decides-eqb a.number b.number).0 t)
      ]
]

-- a name that has a place is there
pub has_place : (fs : List Puid) (puid : Puid) (i : ℕ) → position (λ p. puid_eq p puid) fs ≡ Some i → Contains fs puid
has_place fs puid i found =
    let at = position-Some (λ p. puid_eq p puid) fs i puid found in
    (i, at.0, puid_eq-same (get_or fs i puid) puid at.1)

-- a name that has none is not there
pub has_no_place : (fs : List Puid) (puid : Puid) → position (λ p. puid_eq p puid) fs ≡ None → Contains fs puid → ⊥
has_no_place fs puid none c =
    let test : Puid → Bool = λ p. puid_eq p puid in
    elim (cases_Bool (nat_lt (position_or_len test fs) (length fs))) [
      | inl t ↦ absurd (cc (rw t at none))
      | inr out ↦ (
          let past : length fs ≤ position_or_len test fs = search (rules, tests) in
          let within = c.1 in
          let fails : puid_eq (get_or fs c.0 puid) puid ≡ false = fails_before_first test fs c.0 puid (omega (arith, past, within)) in
          false≢true (sym (rw c.2 at fails) ∙ puid_eq-itself puid)
          )
    ]
