-- Members of lists that are made of others.
use Rattle.std.proofs.Common.{◌≡◌, ◌⊎◌, ℕ, zero, suc, ◌+◌, ◌-◌, ◌<◌, ◌≤◌, List, [], ◌∷◌, Contains, Some, flat_map, map, slice_get, inl, inr, sym, ap, ◌∙◌}
use Rattle.std.proofs.Common.{subst, arith}
use Rattle.std.specs.List.{AllZip, range_with_len}
use Rattle.std.proofs.lemmas.Bool.{cases_eq, eq-eqb, ne_eqb}
use Rattle.std.proofs.lemmas.List.Elements.{Contains-append_left, Contains-append_right}
use Rattle.std.proofs.lemmas.List.FromFn.{get_or-range_with_len, length-range_with_len}
use Rattle.sig_table.specs.Places.{places_of}
use Rattle.sig_table.specs.Views.{SignatureView, TableView}
use Rattle.sig_cert.specs.Pairs.{format_pairs, pairs_with, signature_pairs, signatures_of}

-- a member is the first element, or one behind it
pub first_or_later : {A : Type 0} (y : A) (ys : List A) (x : A) → Contains (y ∷ ys) x → (y ≡ x) ⊎ Contains ys x
first_or_later y ys x (zero, at, is) = inl is
first_or_later y ys x (suc k, at, is) = inr (k, omega arith, is)

pub first_is_there : {A : Type 0} (y : A) (ys : List A) (x : A) → y ≡ x → Contains (y ∷ ys) x
first_is_there y ys x same = (0, omega arith, same)

pub later_is_there : {A : Type 0} (y : A) (ys : List A) (x : A) → Contains ys x → Contains (y ∷ ys) x
later_is_there y ys x (k, at, is) = (suc k, omega arith, is)

pub none_is_there : {A : Type 0} (x : A) → ¬ Contains [] x
none_is_there x (k, at, is) = omega arith

pub mapped_is_there : {A B : Type 0} (f : A → B) (xs : List A) (x : A) → Contains xs x → Contains (map f xs) (f x)
mapped_is_there f [] x c = absurd (none_is_there x c)
mapped_is_there f (y ∷ ys) x c = elim (first_or_later y ys x c) [
  | inl same ↦ first_is_there (f y) (map f ys) (f x) (ap f same)
  | inr later ↦ later_is_there (f y) (map f ys) (f x) (mapped_is_there f ys x later)
]

pub joined_is_there : {A B : Type 0} (f : A → List B) (xs : List A) (x : A) (z : B) → Contains xs x → Contains (f x) z → Contains (flat_map f xs) z
joined_is_there f [] x z c d = absurd (none_is_there x c)
joined_is_there f (y ∷ ys) x z c d = elim (first_or_later y ys x c) [
  | inl same ↦ Contains-append_left (f y) (flat_map f ys) z (subst (λ w. Contains (f w) z) (sym same) d)
  | inr later ↦ Contains-append_right (f y) (flat_map f ys) z (joined_is_there f ys x z later d)
]

-- a member of the first list has a partner in the second
pub partner_of : {A B : Type 0} (R S : A → B → Type 0) (xs : List A) (ys : List B) (x : A) → AllZip R xs ys → AllZip S xs ys → Contains xs x → (y : B) × R x y
    × S x y
partner_of R S [] ys x h k c = absurd (none_is_there x c)
partner_of R S (a ∷ xs) [] x h k c = absurd h
partner_of {A} {B} R S (a ∷ xs) (b ∷ ys) x h k c = elim (first_or_later a xs x c) [
  | inl same ↦ subst (λ w. (y : B) × R w y × S w y) same (b, h.0, k.0)
  | inr later ↦ partner_of R S xs ys x h.1 k.1 later
]

in_range : (a n q : ℕ) → a ≤ q → q < a + n → Contains (range_with_len a n) q
in_range a n q low high =
    let at : q - a < n = omega arith in
    let back : a + (q - a) ≡ q = omega arith in
    (q - a, omega (arith, length-range_with_len a n), get_or-range_with_len a n (q - a) q at ∙ back)

-- two formats are a pair
pub is_format_pair : (formats i j : ℕ) → i < j → j < formats → Contains (format_pairs formats) (i, j)
is_format_pair formats i j order known =
    let pair : ℕ → ℕ × ℕ = λ k. (i, k) in
    joined_is_there (pairs_with formats) (range_with_len 0 formats) i (i, j) (in_range 0 formats i (omega arith) (omega arith))
    (mapped_is_there pair (range_with_len (i + 1) (formats - (i + 1))) j (in_range (i + 1) (formats - (i + 1)) j (omega arith) (omega arith)))

-- a signature of the format stands among its signatures
place_is_there : (format at : ℕ) (signatures : List SignatureView) (k : ℕ) (s : SignatureView) → slice_get signatures k ≡ Some s → s.format ≡ format
    → Contains (map (λ place. place.0) (places_of format at signatures)) (at + k)
place_is_there format at [] k s found of = absurd (cc)
place_is_there format at (first ∷ later) zero s found of =
    let is : first ≡ s = cc in
    let same : first.format ≡ format = ap (λ w. w.format) is ∙ of in
    rw (eq-eqb first.format format same) (first_is_there at (map (λ place. place.0) (places_of format (at + 1) later)) (at + 0) (omega arith))
place_is_there format at (first ∷ later) (suc k) s found of =
    let behind : at + 1 + k ≡ at + suc k = omega arith in
    let rest : Contains (map (λ place. place.0) (places_of format (at + 1) later)) (at + suc k) =
    subst (λ n. Contains (map (λ place. place.0) (places_of format (at + 1) later)) n) behind (place_is_there format (at + 1) later k s found of) in
    elim (cases_eq first.format format) [
      | inl same ↦ rw (eq-eqb first.format format same) (later_is_there at (map (λ place. place.0) (places_of format (at + 1) later)) (at + suc k) rest)
      | inr other ↦ rw (ne_eqb first.format format other) rest
    ]

pub is_signature_of : (table : TableView) (format k : ℕ) (s : SignatureView) → slice_get table.signatures k ≡ Some s → s.format ≡ format
    → Contains (signatures_of table format) k
is_signature_of table format k s found of =
    let same : 0 + k ≡ k = omega arith in
    subst (λ n. Contains (signatures_of table format) n) same (place_is_there format 0 table.signatures k s found of)

-- signatures of two formats are one of their pairs
pub is_signature_pair : (table : TableView) (i j s t : ℕ) → Contains (signatures_of table i) s → Contains (signatures_of table j) t
    → Contains (signature_pairs table (i, j)) (s, t)
is_signature_pair table i j s t c d =
    let pairs : ℕ → List (ℕ × ℕ) = λ a. map (λ b. (a, b)) (signatures_of table j) in
    let pair : ℕ → ℕ × ℕ = λ b. (s, b) in
    joined_is_there pairs (signatures_of table i) s (s, t) c (mapped_is_there pair (signatures_of table j) t d)
