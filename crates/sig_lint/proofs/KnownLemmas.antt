-- Where all names of the priority file are known, none of its formats is told as unknown.
use Rattle.std.proofs.Common.{◌≡◌, ◌⊎◌, ℕ, ◌+◌, ◌<◌, ◌||◌, Bool, true, false, nat_eq, nat_lt, List, [], ◌∷◌, length, take, drop, sym, ap, refl, ◌∙◌, arith}
use Rattle.std.proofs.Common.{rules, tests, eq-eqb, inl, inr, Result, Ok, Err, Option, Some, None}
use Rattle.std.specs.Prelude.{All, fold}
use Rattle.std.specs.List.{list_any, position_or_len}
use Rattle.std.proofs.Math.Bool.{or-false}
use Rattle.std.proofs.lemmas.Bool.{cases_Bool, or_parts}
use Rattle.std.proofs.lemmas.List.{take-append-drop}
use Rattle.std.proofs.lemmas.List.Elements.{All-cons, All-nil}
use Rattle.std.proofs.lemmas.List.Folds.{list_any-append}
use Rattle.indexmap.specs.IndexSet.{insert_key}
use Rattle.sig_table.proofs.Exports.{answered}
use Rattle.sig_table.specs.declared.error.TableError.{TableError}
use Rattle.sig_table.specs.declared.puid.Puid.{Puid}
use Rattle.sig_table.specs.declared.puid.Registry.TheVariants.{Fmt, XFmt}
use Rattle.sig_table.specs.Judging.{unless}
use Rattle.sig_table.specs.Loading.{index_in, is_listed, is_priority_header, pair_fault, pair_of, pair_of_two, pair_with, with_pair}
use Rattle.sig_table.specs.Ranking.{is_above}
use Rattle.sig_table.specs.Puids.{puid_eq, puid_of}
use Rattle.sig_table.specs.Rows.{text_at}
use Rattle.sig_lint.specs.FaultViews.{FaultView}
use Rattle.sig_lint.specs.Faults.{faults_from, is_unknown, pair_row_fault, priority_faults, with_named_pair}
use Rattle.sig_lint.specs.Names.{has_signature_header, is_among, is_beyond, is_named, names_of, with_pair_names, with_puid}
use Rattle.sig_lint.proofs.AgainLemmas.{there_or_not}

puid_eq-itself : (p : Puid) → puid_eq p p ≡ true
puid_eq-itself p = elim p.registry as (λ r. puid_eq (record p { registry = r }) (record p { registry = r }) ≡ true)
    [ Fmt ↦ eq-eqb p.number p.number refl | XFmt ↦ eq-eqb p.number p.number refl ]

-- the text is of no PUID, or of one of the names
abbrev pub Known : List Puid → List ℕ → Type 0
Known names text = (puid_of text ≡ None) ⊎ (is_named names text ≡ true)

insert-has : (names : List Puid) (p : Puid) → list_any (puid_eq p) (insert_key puid_eq names p) ≡ true
insert-has names p = elim (cases_Bool (list_any (puid_eq p) names)) [
  | inl there ↦ rw there there
  | inr new ↦ rw new (list_any-append (puid_eq p) names (p ∷ []) ∙ rw (new, puid_eq-itself p) refl)
]

insert-keeps : (names : List Puid) (p q : Puid) → list_any (puid_eq p) names ≡ true → list_any (puid_eq p) (insert_key puid_eq names q) ≡ true
insert-keeps names p q has = elim (cases_Bool (list_any (puid_eq q) names)) [
  | inl there ↦ rw there has
  | inr new ↦ rw new (list_any-append (puid_eq p) names (q ∷ []) ∙ rw has refl)
]

among-keeps : (names : List Puid) (o more : Option Puid) → is_among names o ≡ true → is_among (with_puid names more) o ≡ true
among-keeps names None more has = absurd (cc has)
among-keeps names (Some p) None has = has
among-keeps names (Some p) (Some q) has = insert-keeps names p q has

among-fold : (rows : List (List (List ℕ))) (names : List Puid) (o : Option Puid) → is_among names o ≡ true → is_among (fold with_pair_names names rows) o ≡ true
among-fold [] names o has = has
among-fold (fields ∷ later) names o has =
    among-fold later (with_pair_names names fields) o
    (among-keeps (with_puid names (puid_of (text_at fields 0))) o (puid_of (text_at fields 1)) (among-keeps names o (puid_of (text_at fields 0)) has))

among-own : (names : List Puid) (o : Option Puid) → (o ≡ None) ⊎ (is_among (with_puid names o) o ≡ true)
among-own names None = inl refl
among-own names (Some p) = inr (insert-has names p)

-- both texts of each record
abbrev pub AllKnown : List Puid → List (List (List ℕ)) → Type 0
AllKnown names [] = Unit {0}
AllKnown names (fields ∷ later) = Known names (text_at fields 0) × Known names (text_at fields 1) × AllKnown names later

all_known : (rows : List (List (List ℕ))) (names : List Puid) → AllKnown (fold with_pair_names names rows) rows
all_known [] names = tt
all_known (fields ∷ later) names =
    let first = with_puid names (puid_of (text_at fields 0)) in
    let both = with_pair_names names fields in
    let rest : AllKnown (fold with_pair_names both later) later = all_known later both in
    let higher : Known (fold with_pair_names both later) (text_at fields 0) = elim (among-own names (puid_of (text_at fields 0))) [
      | inl none ↦ inl none
      | inr has ↦ inr (among-fold later both (puid_of (text_at fields 0)) (among-keeps first (puid_of (text_at fields 0)) (puid_of (text_at fields 1)) has))
    ] in
    let lower : Known (fold with_pair_names both later) (text_at fields 1) = elim (among-own first (puid_of (text_at fields 1))) [
      | inl none ↦ inl none
      | inr has ↦ inr (among-fold later both (puid_of (text_at fields 1)) has)
    ] in
    (higher, lower, rest)

-- an element that passes has a place
position-within : {X : Type 0} (p : X → Bool) (xs : List X) → list_any p xs ≡ true → position_or_len p xs < length xs
position-within p [] h = absurd (cc h)
position-within p (y ∷ ys) h = elim (cases_Bool (p y)) [
  | inl t ↦ rw t (omega arith)
  | inr f ↦ rw f (let g = position-within p ys (rw f at h) in omega arith)
]

has-index : (names : List Puid) (p : Puid) → list_any (puid_eq p) names ≡ true → (k : ℕ) × (index_in names p ≡ Some k)
has-index names p has =
    let within = position-within (puid_eq p) names has in
    let test : nat_lt (position_or_len (puid_eq p) names) (length names) ≡ true = search (rules, tests) in
    (position_or_len (puid_eq p) names, rw test refl)

-- a name that is not behind the first thousand is among them
among-first : (names : List Puid) (o : Option Puid) → is_among names o ≡ true → is_among (drop 1000 names) o ≡ false → is_among (take 1000 names) o ≡ true
among-first names None has not_beyond = absurd (cc has)
among-first names (Some p) has not_beyond =
    let split = list_any-append (puid_eq p) (take 1000 names) (drop 1000 names) in
    let whole = ap (λ l. list_any (puid_eq p) l) (take-append-drop 1000 names) in
    sym (or-false (list_any (puid_eq p) (take 1000 names))) ∙ ap (λ b. list_any (puid_eq p) (take 1000 names) || b) (sym not_beyond) ∙ sym split ∙ whole ∙ has

-- a refusal is one
err-same : {A : Type 0} (x y : TableError) → ◌≡◌ {A = Result A TableError} (Err x) (Err y) → is_unknown x ≡ false → is_unknown y ≡ false
err-same x y h known = let same : y ≡ x = cc h in rw same known

two_fault : (n above below : ℕ) (e : TableError) → pair_of_two n above below ≡ Err e → is_unknown e ≡ false
two_fault n above below e h = elim (cases_Bool (nat_eq above below)) [
  | inl same ↦ err-same _ e (rw same at h) refl
  | inr other ↦ absurd (cc (rw other at h))
]

-- two texts of PUIDs are among the formats
abbrev pub HaveIndexes : List Puid → List ℕ → List ℕ → Type 0
HaveIndexes formats a b = (p q : Puid) → puid_of a ≡ Some p → puid_of b ≡ Some q → ((k : ℕ) × (index_in formats p ≡ Some k))
    × ((k : ℕ) × (index_in formats q ≡ Some k))

with_fault : (formats : List Puid) (n : ℕ) (a b : List ℕ) (e : TableError) → HaveIndexes formats a b → pair_with formats n a b ≡ Err e → is_unknown e ≡ false
with_fault formats n a b e known h = elim (there_or_not (puid_of a)) [
  | inl none ↦ err-same _ e (rw none at h) refl
  | inr p ↦ elim (there_or_not (puid_of b)) [
    | inl none ↦ err-same _ e (rw (p.1, none) at h) refl
    | inr q ↦
        let both = known p.0 q.0 p.1 q.1 in
        two_fault n both.0.0 both.1.0 e (rw (p.1, q.1, both.0.1, both.1.1) at h)
  ]
]

pair_of-fault : (formats : List Puid) (n : ℕ) (fields : List (List ℕ)) (e : TableError)
    → (nat_eq (length fields) 2 ≡ true → HaveIndexes formats (text_at fields 0) (text_at fields 1))
    → pair_of formats n fields ≡ Err e → is_unknown e ≡ false
unfolding pair_of
pair_of-fault formats n fields e known h = elim (cases_Bool (nat_eq (length fields) 2)) [
  | inl two ↦ with_fault formats n (text_at fields 0) (text_at fields 1) e (known two) (rw two at h)
  | inr other ↦ err-same _ e (rw other at h) refl
]

unless-fault : (pairs more : List (ℕ × ℕ)) (n : ℕ) (pair : ℕ × ℕ) (e : TableError) → unless (pair_fault pairs n pair) (Ok more) ≡ Err e → is_unknown e ≡ false
unfolding pair_fault
unless-fault pairs more n pair e h = elim (cases_Bool (is_listed pairs pair)) [
  | inl twice ↦ err-same _ e (rw twice at h) refl
  | inr new ↦ elim (cases_Bool (is_above pairs pair.1 pair.0)) [
    | inl cycle ↦ err-same _ e (rw (new, cycle) at h) refl
    | inr fine ↦ absurd (cc (rw (new, fine) at h))
  ]
]

with_pair-fault : (formats : List Puid) (n : ℕ) (pairs : List (ℕ × ℕ)) (fields : List (List ℕ)) (e : TableError)
    → (nat_eq (length fields) 2 ≡ true → HaveIndexes formats (text_at fields 0) (text_at fields 1)) → with_pair formats n pairs fields ≡ Err e
    → is_unknown e ≡ false
unfolding with_pair
with_pair-fault formats n pairs fields e known h = elim (answered (pair_of formats n fields)) [
  | inl pair ↦ unless-fault pairs _ n pair.0 e (rw pair.1 at h)
  | inr fault ↦ err-same fault.0 e (rw fault.1 at h) (pair_of-fault formats n fields fault.0 known fault.1)
]

named : (names : List Puid) (text : List ℕ) (p : Puid) → puid_of text ≡ Some p → Known names text → is_among names (Some p) ≡ true
named names text p is (inl none) = absurd (cc (is, none))
named names text p is (inr has) = rw is at has

have_indexes : (names : List Puid) (fields : List (List ℕ)) → Known names (text_at fields 0) → Known names (text_at fields 1) → is_beyond names fields ≡ false
    → nat_eq (length fields) 2 ≡ true → HaveIndexes (take 1000 names) (text_at fields 0) (text_at fields 1)
unfolding is_beyond
have_indexes names fields higher lower not_beyond two p q is_p is_q =
    let has_p = named names (text_at fields 0) p is_p higher in
    let has_q = named names (text_at fields 1) q is_q lower in
    let parts = or_parts (is_among (drop 1000 names) (Some p)) (is_among (drop 1000 names) (Some q)) (rw (two, is_p, is_q, has_p, has_q) at not_beyond) in
    (has-index (take 1000 names) p (among-first names (Some p) has_p parts.0), has-index (take 1000 names) q (among-first names (Some q) has_q parts.1))

named_fault : (names : List Puid) (n : ℕ) (pairs : List (ℕ × ℕ)) (fields : List (List ℕ)) (e : TableError) → Known names (text_at fields 0)
    → Known names (text_at fields 1)
    → with_named_pair names n pairs fields ≡ Err e → is_unknown e ≡ false
unfolding with_named_pair
named_fault names n pairs fields e higher lower h = elim (cases_Bool (is_beyond names fields)) [
  | inl beyond ↦ absurd (cc (rw beyond at h))
  | inr within ↦ with_pair-fault (take 1000 names) n pairs fields e (have_indexes names fields higher lower within) (rw within at h)
]

abbrev pub IsKnownFault : FaultView → Type 0
IsKnownFault fault = is_unknown fault.error ≡ false

none_unknown : (names : List Puid) (rows : List (List (List ℕ))) (n : ℕ) (pairs : List (ℕ × ℕ)) → AllKnown names rows
    → All IsKnownFault (faults_from (pair_row_fault names) (with_named_pair names) n pairs rows)
unfolding faults_from
none_unknown names [] n pairs known = All-nil IsKnownFault
none_unknown names (fields ∷ later) n pairs known = elim (answered (with_named_pair names n pairs fields)) [
  | inl more ↦ rw more.1 (none_unknown names later (n + 1) more.0 known.2)
  | inr e ↦ rw e.1 (All-cons IsKnownFault _ _ (named_fault names n pairs fields e.0 known.0 known.1 e.1) (none_unknown names later (n + 1) pairs known.2))
]

pub every_name_is_known : (signatures priorities : List (List (List ℕ))) → has_signature_header signatures ≡ false
    → All IsKnownFault (priority_faults (names_of signatures priorities) priorities)
unfolding priority_faults names_of
every_name_is_known signatures [] none = All-cons IsKnownFault _ [] refl (All-nil IsKnownFault)
every_name_is_known signatures (header ∷ rows) none = rw none (elim (cases_Bool (is_priority_header header)) [
  | inl is ↦ rw is (none_unknown (fold with_pair_names [] rows) rows 1 [] (all_known rows []))
  | inr other ↦ rw other (All-cons IsKnownFault _ [] refl (All-nil IsKnownFault))
])
