-- From the first signature of a format the links lead through all of its signatures.
use Rattle.std.proofs.Common.{◌≡◌, ℕ, zero, suc, ◌+◌, ◌<◌, ◌≤◌, List, [], ◌∷◌, All, length, drop, get_or, replicate, refl, sym, ap, ◌∙◌, subst, arith}
use Rattle.std.proofs.Common.{inl, inr, slice_index, slice_set}
use Rattle.std.proofs.Math.Seq.{drop-cons, drop-length}
use Rattle.std.proofs.lemmas.Bool.{cases_eq, cases_lt, eq-eqb, le-ltb, lt-ltb, ne_eqb}
use Rattle.std.proofs.lemmas.List.{get_or-replicate, get_or-set_other, get_or-set_same, length-set}
use Rattle.std.proofs.lemmas.List.Elements.{All-head, All-tail, All-weaker}
use Rattle.sig_table.specs.declared.ids.SigId.{SigId}
use Rattle.sig_table.specs.Links.{AreLinked, LinksRise, linked, linked_from}
use Rattle.sig_table.specs.Places.{places_of}
use Rattle.sig_table.specs.Tables.{IsSignature, IsTable}
use Rattle.sig_table.specs.Views.{SignatureView, TableView}

linked-more : (n : ℕ) (nexts : List ℕ) (at : ℕ) → at < length nexts → linked (suc n) nexts at ≡ record { 0 = at } ∷ linked n nexts (slice_index nexts at)
linked-more n nexts at inside = rw (lt-ltb at (length nexts) inside) refl

linked-end : (n : ℕ) (nexts : List ℕ) (at : ℕ) → length nexts ≤ at → linked n nexts at ≡ []
linked-end zero nexts at over = refl
linked-end (suc n) nexts at over = rw (le-ltb at (length nexts) over) refl

-- the links from this place on lead to later ones
abbrev pub RisesFrom : ℕ → List ℕ → Type 0
RisesFrom low nexts = (place : ℕ) → low ≤ place → place < length nexts → place < slice_index nexts place

-- more steps than there are places ahead lead no further
enough : (n m : ℕ) (nexts : List ℕ) (at : ℕ) → RisesFrom at nexts → length nexts ≤ n + at → length nexts ≤ m + at → linked n nexts at ≡ linked m nexts at
enough zero m nexts at rise h k = sym (linked-end m nexts at (omega arith))
enough (suc n) zero nexts at rise h k = linked-end (suc n) nexts at (omega arith)
enough (suc n) (suc m) nexts at rise h k = elim (cases_lt at (length nexts)) [
  | inl inside ↦
      let up : at < slice_index nexts at = rise at (omega arith) inside in
      linked-more n nexts at inside
      ∙ ap (λ (l : List SigId). record { 0 = at } ∷ l) (enough n m nexts (slice_index nexts at) (λ p low. rise p (omega arith)) (omega arith) (omega arith))
      ∙ sym (linked-more m nexts at inside)
  | inr over ↦ linked-end (suc n) nexts at over ∙ sym (linked-end (suc m) nexts at over)
]

-- a link of an earlier place is not met
unmet : (n : ℕ) (nexts : List ℕ) (q v at : ℕ) → q < at → RisesFrom at nexts → linked n (slice_set nexts q v) at ≡ linked n nexts at
unmet zero nexts q v at above rise = refl
unmet (suc n) nexts q v at above rise =
    let long : length (slice_set nexts q v) ≡ length nexts = length-set nexts q v in
    elim (cases_lt at (length nexts)) [
      | inl inside ↦
          let up : at < slice_index nexts at = rise at (omega arith) inside in
          let same : slice_index (slice_set nexts q v) at ≡ slice_index nexts at = get_or-set_other nexts q at v 0 (λ e. omega arith) in
          linked-more n (slice_set nexts q v) at (omega arith)
          ∙ ap (λ (l : List SigId). record { 0 = at } ∷ l)
          (ap (linked n (slice_set nexts q v)) same ∙ unmet n nexts q v (slice_index nexts at) (omega arith) (λ p low. rise p (omega arith)))
          ∙ sym (linked-more n nexts at inside)
      | inr over ↦ linked-end (suc n) (slice_set nexts q v) at (omega arith) ∙ sym (linked-end (suc n) nexts at over)
    ]

-- ---- the steps of an iterator

predecessor : (n q : ℕ) → q < n → (m : ℕ) × (n ≡ suc m)
predecessor zero q h = absurd (omega arith)
predecessor (suc m) q h = (m, refl)

pub linked_from-more : (nexts : List ℕ) (at : ℕ) → LinksRise nexts → at < length nexts
    → linked_from nexts at ≡ record { 0 = at } ∷ linked_from nexts (slice_index nexts at)
unfolding linked_from
linked_from-more nexts at rise inside =
    let less = predecessor (length nexts) at inside in
    let up : at < slice_index nexts at = rise at inside in
    let e = less.1 in
    ap (λ k. linked k nexts at) less.1 ∙ linked-more less.0 nexts at inside
    ∙ ap (λ (l : List SigId). record { 0 = at } ∷ l)
    (enough less.0 (length nexts) nexts (slice_index nexts at) (λ p low. rise p) (omega arith) (omega arith))

pub linked_from-end : (nexts : List ℕ) (at : ℕ) → length nexts ≤ at → linked_from nexts at ≡ []
unfolding linked_from
linked_from-end nexts at over = linked-end (length nexts) nexts at over

-- ---- signatures are linked from the last one down

-- the links of the signatures from this place on
pub record AreLinkedFrom (place : ℕ) (signatures : List SignatureView) (firsts nexts : List ℕ) : Type 0 where
  pub rise : RisesFrom place nexts
  pub later : (format : ℕ) → format < length firsts → place ≤ slice_index firsts format
  pub each : (format : ℕ) → format < length firsts → linked (length nexts) nexts (slice_index firsts format) ≡ places_of format place (drop place signatures)

-- no signature yet
pub links_start : (n place : ℕ) (signatures : List SignatureView) (firsts nexts : List ℕ) → firsts ≡ replicate n 65535 → length firsts ≡ n
    → place ≡ length signatures → length signatures ≤ 4000 → length nexts ≡ length signatures → AreLinkedFrom place signatures firsts nexts
links_start n place signatures firsts nexts are many at few long =
    let first : (format : ℕ) → format < length firsts → slice_index firsts format ≡ 65535 =
    λ format known. ap (λ l. slice_index l format) are ∙ get_or-replicate n format 65535 0 (omega arith) in
    record {
      rise = λ p low inside. absurd (omega arith);
      later = λ format known. (let is = first format known in omega arith);
      each = λ format known.
          (let is = first format known in
          linked-end (length nexts) nexts (slice_index firsts format) (omega arith)
          ∙ ap (places_of format place) (sym (ap (λ k. drop k signatures) at ∙ drop-length signatures)));
    }

module _ (q : ℕ) (signatures : List SignatureView) (firsts nexts : List ℕ) (s : SignatureView) (first : ℕ) (within : q < length signatures)
    (is : s ≡ get_or signatures q s) (long : length nexts ≡ length signatures) (known : s.format < length firsts)
    (begins : first ≡ slice_index firsts s.format) (was : AreLinkedFrom (q + 1) signatures firsts nexts) where
  here : drop q signatures ≡ s ∷ drop (q + 1) signatures
  here =
      let next : suc q ≡ q + 1 = omega arith in
      drop-cons signatures q s within ∙ ap (λ x. x ∷ drop (suc q) signatures) (sym is) ∙ ap (λ k. s ∷ drop k signatures) next

  ahead : q < first
  ahead = let low = was.later s.format known in omega arith

  -- the format of the signature begins with it
  own : linked (length nexts) (slice_set nexts q first) q ≡ places_of s.format q (drop q signatures)
  own =
      let less = predecessor (length nexts) q (omega arith) in
      let e = less.1 in
      let up = ahead in
      let same : length (slice_set nexts q first) ≡ length nexts = length-set nexts q first in
      let link : slice_index (slice_set nexts q first) q ≡ first = get_or-set_same nexts q first 0 (omega arith) in
      let rise : RisesFrom first nexts = λ p low. was.rise p (omega arith) in
      let rest : linked less.0 (slice_set nexts q first) (slice_index (slice_set nexts q first) q) ≡ places_of s.format (q + 1) (drop (q + 1) signatures) =
      ap (linked less.0 (slice_set nexts q first)) link ∙ unmet less.0 nexts q first first up rise
      ∙ enough less.0 (length nexts) nexts first rise (omega arith) (omega arith) ∙ ap (linked (length nexts) nexts) begins ∙ was.each s.format known in
      ap (λ k. linked k (slice_set nexts q first) q) less.1 ∙ linked-more less.0 (slice_set nexts q first) q (omega arith)
      ∙ ap (λ (l : List SigId). record { 0 = q } ∷ l) rest ∙ rw (here, eq-eqb s.format s.format refl) refl

  -- the others begin as before
  other : (format : ℕ) → format < length firsts → (format ≡ s.format → ⊥)
      → linked (length nexts) (slice_set nexts q first) (slice_index firsts format) ≡ places_of format q (drop q signatures)
  other format within_firsts differs =
      let low = was.later format within_firsts in
      unmet (length nexts) nexts q first (slice_index firsts format) (omega arith) (λ p up. was.rise p (omega arith)) ∙ was.each format within_firsts
      ∙ rw (here, ne_eqb s.format format (λ e. differs (sym e))) refl

  pub links_more : AreLinkedFrom q signatures (slice_set firsts s.format q) (slice_set nexts q first)
  links_more =
      let same : length (slice_set nexts q first) ≡ length nexts = length-set nexts q first in
      let as_many : length (slice_set firsts s.format q) ≡ length firsts = length-set firsts s.format q in
      let up = ahead in
      record {
        rise = λ p low inside. elim (cases_eq p q) [
          | inl here ↦
              (let link : slice_index (slice_set nexts q first) q ≡ first = get_or-set_same nexts q first 0 (omega arith) in
              let at : slice_index (slice_set nexts q first) p ≡ first = ap (slice_index (slice_set nexts q first)) here ∙ link in omega arith)
          | inr apart ↦
              (let link : slice_index (slice_set nexts q first) p ≡ slice_index nexts p = get_or-set_other nexts q p first 0 apart in
              let old = was.rise p (omega arith) (omega arith) in omega arith)
        ];
        later = λ format inside. elim (cases_eq format s.format) [
          | inl here ↦
              (let begin : slice_index (slice_set firsts s.format q) s.format ≡ q = get_or-set_same firsts s.format q 0 known in
              let at : slice_index (slice_set firsts s.format q) format ≡ q = ap (slice_index (slice_set firsts s.format q)) here ∙ begin in omega arith)
          | inr apart ↦
              (let begin : slice_index (slice_set firsts s.format q) format ≡ slice_index firsts format = get_or-set_other firsts s.format format q 0 apart in
              let old = was.later format (omega arith) in omega arith)
        ];
        each = λ format inside. elim (cases_eq format s.format) [
          | inl here ↦
              (let begin : slice_index (slice_set firsts s.format q) s.format ≡ q = get_or-set_same firsts s.format q 0 known in
              ap (λ k. linked k (slice_set nexts q first) (slice_index (slice_set firsts s.format q) format)) same
              ∙ ap (linked (length nexts) (slice_set nexts q first)) (ap (slice_index (slice_set firsts s.format q)) here ∙ begin) ∙ own
              ∙ ap (λ f. places_of f q (drop q signatures)) (sym here))
          | inr apart ↦
              (let begin : slice_index (slice_set firsts s.format q) format ≡ slice_index firsts format = get_or-set_other firsts s.format format q 0 apart in
              ap (λ k. linked k (slice_set nexts q first) (slice_index (slice_set firsts s.format q) format)) same
              ∙ ap (linked (length nexts) (slice_set nexts q first)) begin ∙ other format (omega arith) apart)
        ];
      }

-- all signatures
pub links_end : (place : ℕ) (signatures : List SignatureView) (firsts nexts : List ℕ) → place ≡ 0 → length nexts ≡ length signatures
    → AreLinkedFrom place signatures firsts nexts
    → AreLinked signatures firsts nexts
unfolding linked_from
links_end place signatures firsts nexts at long was = record {
  as_many = long;
  rise = λ p. was.rise p (omega arith);
  each = λ format known. was.each format known ∙ ap (λ k. places_of format k (drop k signatures)) at;
}

-- ---- the links of a table

-- the signatures of a table have formats that there are links for
pub formats_known : (t : TableView) (signatures : List SignatureView) (formats : ℕ) → IsTable t → signatures ≡ t.signatures → formats ≡ length t.formats
    → All (λ s. s.format < formats) signatures
formats_known t signatures formats table same long =
    subst (All (λ s. s.format < formats)) (sym same)
    (All-weaker (IsSignature (length t.formats)) (λ s. s.format < formats) (λ s is. let known = is.known in omega arith) t.signatures table.each)

-- no signature is of a format that is not known
pub none_of_unknown : (signatures : List SignatureView) (formats format at : ℕ) → All (λ s. s.format < formats) signatures → formats ≤ format
    → places_of format at signatures ≡ []
none_of_unknown [] formats format at known over = refl
none_of_unknown (s ∷ later) formats format at known over =
    let P : SignatureView → Type 0 = λ s. s.format < formats in
    let low : s.format < formats = All-head P s later known in
    rw (ne_eqb s.format format (λ e. omega arith)) (none_of_unknown later formats format (at + 1) (All-tail P s later known) over)

-- what begins a format leads through its signatures, and what begins none through none
pub links_told : (t : TableView) (firsts nexts : List ℕ) (format first : ℕ) → IsTable t → length firsts ≡ length t.formats → AreLinked t.signatures firsts nexts
    → (format < length firsts → first ≡ slice_index firsts format) → (length firsts ≤ format → first ≡ 65535)
    → linked_from nexts first ≡ places_of format 0 t.signatures
links_told t firsts nexts format first table many are known unknown = elim (cases_lt format (length firsts)) [
  | inl low ↦ ap (linked_from nexts) (known low) ∙ are.each format low
  | inr over ↦
      (let none = unknown over in
      let few = table.signatures in
      let as_many = are.as_many in
      linked_from-end nexts first (omega arith)
      ∙ sym (none_of_unknown t.signatures (length firsts) format 0 (formats_known t t.signatures (length firsts) table refl many) over))
]
