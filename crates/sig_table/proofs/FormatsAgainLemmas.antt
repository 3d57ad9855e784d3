-- The formats in the order of their first signatures.
use Rattle.std.proofs.Common.{◌≡◌, ℕ, zero, suc, ◌<◌, ◌≤◌, ◌⊎◌, true, false, not, nat_eq, nat_le, ◌&&◌, List, [], ◌∷◌, ◌++◌, length, take, sym, ap, subst}
use Rattle.std.proofs.Common.{one-add, ◌∙◌, refl, arith, rules, tests, length-append, inl, inr, Some}
use Rattle.std.specs.Prelude.{slice_get, All, Contains}
use Rattle.std.specs.List.{list_any, position_or_len}
use Rattle.std.proofs.lemmas.Bool.{cases_Bool, cases_lt, eqb-true}
use Rattle.std.proofs.lemmas.List.{get_or_append_left, length-take-le}
use Rattle.std.proofs.lemmas.List.Elements.{All-contains, Contains-append_cases, Contains-append_left, Contains-append_right, Contains-push}
use Rattle.std.proofs.lemmas.List.Elements.{Contains-push_cases}
use Rattle.indexmap.specs.IndexSet.{insert_key}
use Rattle.sig_table.proofs.DraftLemmas.{any-within, position-any}
use Rattle.sig_table.specs.declared.puid.Puid.{Puid}
use Rattle.sig_table.specs.declared.puid.Registry.{Registry}
use Rattle.sig_table.specs.declared.puid.Registry.TheVariants.{Fmt, XFmt}
use Rattle.sig_table.specs.Puids.{puid_eq, registry_eq}
use Rattle.sig_table.specs.Tables.{AllDifferent, FormatsRise}

-- a member of a list with one in front
pub Contains-cons_cases : {A : Type 0} (y : A) (ys : List A) (x : A) → Contains (y ∷ ys) x → (y ≡ x) ⊎ Contains ys x
Contains-cons_cases y ys x c = elim (Contains-append_cases (y ∷ []) ys x c) [
  | inl front ↦ elim (Contains-push_cases [] y x front) [ inl none ↦ absurd (omega arith) | inr same ↦ inl same ]
  | inr later ↦ inr later
]

pub Contains-there : {A : Type 0} (y : A) (ys : List A) (x : A) → Contains ys x → Contains (y ∷ ys) x
Contains-there y ys x c = Contains-append_right (y ∷ []) ys x c

pub Contains-slice_get : {A : Type 0} (xs : List A) (i : ℕ) (x : A) → slice_get xs i ≡ Some x → Contains xs x
Contains-slice_get [] i x h = absurd (cc h)
Contains-slice_get (y ∷ ys) zero x h = (0, omega arith, cc h)
Contains-slice_get (y ∷ ys) (suc i) x h = Contains-there y ys x (Contains-slice_get ys i x h)

-- each place within the list has a member
pub slice_get-within : {A : Type 0} (xs : List A) (i : ℕ) → i < length xs → (x : A) × (slice_get xs i ≡ Some x)
slice_get-within [] i h = absurd (omega arith)
slice_get-within (y ∷ ys) zero h = (y, refl)
slice_get-within (y ∷ ys) (suc i) h = slice_get-within ys i (omega arith)

take-next : {A : Type 0} (xs : List A) (i : ℕ) (x : A) → slice_get xs i ≡ Some x → take i xs ++ x ∷ [] ≡ take (suc i) xs
take-next [] i x h = absurd (cc h)
take-next (y ∷ ys) zero x h = let same : y ≡ x = cc h in ap (λ z. z ∷ []) (sym same)
take-next (y ∷ ys) (suc i) x h = ap (λ l. y ∷ l) (take-next ys i x h)

same_number : (a b : ℕ) → nat_eq a b ≡ true → a ≡ b
same_number a b h = eqb-true a b h

abbrev puid : Registry → ℕ → Puid
puid r n = record { registry = r; number = n }

same_puid : (r s : Registry) (m n : ℕ) → (registry_eq r s && nat_eq m n) ≡ true → puid r m ≡ puid s n
same_puid Fmt Fmt m n h = ap (puid Fmt) (same_number m n h)
same_puid Fmt XFmt m n h = absurd (cc h)
same_puid XFmt Fmt m n h = absurd (cc h)
same_puid XFmt XFmt m n h = ap (puid XFmt) (same_number m n h)

-- equal PUIDs are one
pub puid_eq-true : (a b : Puid) → puid_eq a b ≡ true → a ≡ b
puid_eq-true a b h = same_puid a.registry b.registry a.number b.number h

number_itself : (n : ℕ) → nat_eq n n ≡ true
number_itself n = search (rules, tests)

itself : (r : Registry) (n : ℕ) → (registry_eq r r && nat_eq n n) ≡ true
itself Fmt n = number_itself n
itself XFmt n = number_itself n

puid_eq-itself : (p : Puid) → puid_eq p p ≡ true
puid_eq-itself p = itself p.registry p.number

-- where all differ, a PUID has its own place among the first formats, which is their end where it is the next
pub position-first : (formats : List Puid) (k f : ℕ) (p : Puid) → AllDifferent formats → slice_get formats f ≡ Some p → f ≤ k
    → position_or_len (puid_eq p) (take k formats) ≡ f
position-first [] k f p d h le = absurd (cc h)
position-first (x ∷ xs) zero zero p d h le = refl
position-first (x ∷ xs) zero (suc f) p d h le = absurd (omega arith)
position-first (x ∷ xs) (suc k) zero p d h le = let same : x ≡ p = cc h in rw (same, puid_eq-itself p) refl
position-first (x ∷ xs) (suc k) (suc f) p d h le = elim (cases_Bool (puid_eq p x)) [
  | inl t ↦ absurd (d.0 (rw (← puid_eq-true p x t) (Contains-slice_get xs f p h)))
  | inr e ↦ rw e (rw one-add (ap (λ n. suc n) (position-first xs k f p d.1 h (omega arith))))
]

-- before, the first k formats, and then, the first k' ones: the place of a PUID in both, and the room for it
pub record Turn (formats : List Puid) (k k' f : ℕ) (p : Puid) : Type 0 where
  pub place : position_or_len (puid_eq p) (take k formats) ≡ f
  pub taken : insert_key puid_eq (take k formats) p ≡ take k' formats
  pub room : (nat_le 1000 (length (take k formats)) && not (list_any (puid_eq p) (take k formats))) ≡ false
  pub stays : position_or_len (puid_eq p) (take k' formats) ≡ f
  pub kept : insert_key puid_eq (take k' formats) p ≡ take k' formats

-- a format that was met
there : (formats : List Puid) (k f : ℕ) (p : Puid) → AllDifferent formats → slice_get formats f ≡ Some p → f < k → k ≤ length formats
    → list_any (puid_eq p) (take k formats) ≡ true
there formats k f p d h lt le =
    let place = position-first formats k f p d h (omega arith) in
    let size = length-take-le k formats le in
    any-within (puid_eq p) (take k formats) (rw (place, size) lt)

known_turn : (formats : List Puid) (k f : ℕ) (p : Puid) → AllDifferent formats → slice_get formats f ≡ Some p → f < k → k ≤ length formats
    → Turn formats k k f p
known_turn formats k f p d h lt le =
    let place = position-first formats k f p d h (omega arith) in
    let found = there formats k f p d h lt le in
    record {
      place = place;
      taken = rw found refl;
      room = elim (cases_Bool (nat_le 1000 (length (take k formats)))) [ inl t ↦ rw (t, found) refl | inr e ↦ rw e refl ];
      stays = place;
      kept = rw found refl;
    }

-- the next format
new_turn : (formats : List Puid) (k : ℕ) (p : Puid) → AllDifferent formats → slice_get formats k ≡ Some p → k < length formats → length formats ≤ 1000
    → Turn formats k (suc k) k p
new_turn formats k p d h lt few =
    let place : position_or_len (puid_eq p) (take k formats) ≡ k = position-first formats k k p d h (omega arith) in
    let size : length (take k formats) ≡ k = length-take-le k formats (omega arith) in
    let none : list_any (puid_eq p) (take k formats) ≡ false = elim (cases_Bool (list_any (puid_eq p) (take k formats))) [
      | inl t ↦ absurd (let within = position-any (puid_eq p) (take k formats) t in omega arith)
      | inr e ↦ e
    ] in
    let found = there formats (suc k) k p d h (omega arith) lt in
    let free : nat_le 1000 (length (take k formats)) ≡ false = rw size (above 1000 k (omega arith)) in
    record {
      place = place;
      taken = rw none (take-next formats k p h);
      room = rw free refl;
      stays = position-first formats (suc k) k p d h (omega arith);
      kept = rw found refl;
    }
  where
    above : (a b : ℕ) → b < a → nat_le a b ≡ false
    above a b h = search (rules, tests)

-- behind formats that were met, each later one was met or is above them
rise-each : (met later : List ℕ) (g : ℕ) → FormatsRise met later → Contains later g → Contains met g ⊎ All (λ h. h < g) met
rise-each met [] g rise c = absurd (let lt = c.1 in omega arith)
rise-each met (f ∷ later) g rise c = elim (Contains-cons_cases f later g c) [
  | inl same ↦ subst (λ (x : ℕ). Contains met x ⊎ All (λ h. h < x) met) same rise.0
  | inr more ↦ elim (rise-each (met ++ f ∷ []) later g rise.1 more) [
    | inl known ↦ elim (Contains-push_cases met f g known) [
      | inl before ↦ inl before
      | inr same ↦ subst (λ (x : ℕ). Contains met x ⊎ All (λ h. h < x) met) same rise.0
    ]
    | inr all ↦ inr (λ i d lt. subst (λ (x : ℕ). x < g) (get_or_append_left met (f ∷ []) d i lt) (all i d (omega (arith, length-append {A = ℕ}))))
  ]
]

-- the first k of so many formats were met, and the later ones go on from them
pub record Met (formats k : ℕ) (met later : List ℕ) : Type 0 where
  pub within : k ≤ formats
  pub below : (g : ℕ) → Contains met g → g < k
  pub each : (g : ℕ) → g < k → Contains met g
  pub rise : FormatsRise met later
  pub has_all : (g : ℕ) → g < formats → (g < k) ⊎ Contains later g

known_again : (formats k f : ℕ) (met later : List ℕ) → Met formats k met (f ∷ later) → f < k → Met formats k (met ++ f ∷ []) later
known_again formats k f met later m lt = record {
  within = m.within;
  below = λ g c. elim (Contains-push_cases met f g c) [ inl before ↦ m.below g before | inr same ↦ omega arith ];
  each = λ g h. Contains-append_left met (f ∷ []) g (m.each g h);
  rise = m.rise.1;
  has_all = λ g h. elim (m.has_all g h) [
    | inl before ↦ inl before
    | inr c ↦ elim (Contains-cons_cases f later g c) [ inl same ↦ inl (omega arith) | inr more ↦ inr more ]
  ];
}

next_again : (formats k : ℕ) (met later : List ℕ) → Met formats k met (k ∷ later) → k < formats → Met formats (suc k) (met ++ k ∷ []) later
next_again formats k met later m lt = record {
  within = lt;
  below = λ g c. elim (Contains-push_cases met k g c) [ inl before ↦ (let b = m.below g before in omega arith) | inr same ↦ omega arith ];
  each = λ g h. elim (cases_lt g k) [
    | inl before ↦ Contains-append_left met (k ∷ []) g (m.each g before)
    | inr least ↦ let same : k ≡ g = omega arith in subst (Contains (met ++ k ∷ [])) same (Contains-push met k)
  ];
  rise = m.rise.1;
  has_all = λ g h. elim (m.has_all g h) [
    | inl before ↦ inl (omega arith)
    | inr c ↦ elim (Contains-cons_cases k later g c) [ inl same ↦ inl (omega arith) | inr more ↦ inr more ]
  ];
}

-- a format that was not met is the next one, or the next one would have no signature
is_next : (formats k f : ℕ) (met later : List ℕ) → Met formats k met (f ∷ later) → f < formats → k ≤ f → f ≡ k
is_next formats k f met later m lt le = elim (cases_lt k f) [
  | inr most ↦ omega arith
  | inl less ↦ absurd (elim (m.has_all k (omega arith)) [
    | inl before ↦ omega arith
    | inr c ↦ elim (Contains-cons_cases f later k c) [
      | inl same ↦ omega arith
      | inr more ↦ elim (rise-each (met ++ f ∷ []) later k m.rise.1 more) [
        | inl known ↦ elim (Contains-push_cases met f k known) [ inl before ↦ (let b = m.below k before in omega arith) | inr same ↦ omega arith ]
        | inr all ↦ let b : f < k = All-contains (λ h. h < k) (met ++ f ∷ []) f all (Contains-push met f) in omega arith
      ]
    ]
  ])
]

-- what a signature of the format does
pub turn : (formats : List Puid) (k f : ℕ) (p : Puid) (met later : List ℕ) → AllDifferent formats → length formats ≤ 1000 → slice_get formats f ≡ Some p
    → f < length formats → Met (length formats) k met (f ∷ later)
    → (k' : ℕ) × Turn formats k k' f p × Met (length formats) k' (met ++ f ∷ []) later
turn formats k f p met later d few h lt m = elim (cases_lt f k) [
  | inl before ↦ (k, known_turn formats k f p d h before m.within, known_again (length formats) k f met later m before)
  | inr least ↦
      let same : f ≡ k = is_next (length formats) k f met later m lt least in
      let m' : Met (length formats) k met (k ∷ later) = subst (λ (x : ℕ). Met (length formats) k met (x ∷ later)) same m in
      let lt' : k < length formats = omega arith in
      let at : slice_get formats k ≡ Some p = ap (slice_get formats) (sym same) ∙ h in (
        suc k,
        subst (λ (x : ℕ). Turn formats k (suc k) x p) (sym same) (new_turn formats k p d at lt' few),
        subst (λ (x : ℕ). Met (length formats) (suc k) (met ++ x ∷ []) later) (sym same) (next_again (length formats) k met later m' lt'),
      )
]

-- in the end all were met
pub all_met : (formats : List Puid) (k : ℕ) (met : List ℕ) → Met (length formats) k met [] → k ≡ length formats
all_met formats k met m = elim (cases_lt k (length formats)) [
  | inl less ↦ absurd (elim (m.has_all k less) [ inl before ↦ omega arith | inr c ↦ (let none = c.1 in omega arith) ])
  | inr all ↦ (let most = m.within in omega arith)
]
