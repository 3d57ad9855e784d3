-- A pair more leaves every format but its lower one the files that it had.
use Rattle.std.proofs.Common.{◌≡◌, ◌⊎◌, ℕ, ◌+◌, ◌<◌, List, [], ◌∷◌, ◌++◌, ◌↔◌, All, Contains, Option, None, Some, get_or, length, map, option_map, slice_get}
use Rattle.std.proofs.Common.{take, ap, inl, inr, refl, subst, sym, ◌∙◌, arith}
use Rattle.std.proofs.lemmas.Bool.{cases_eq}
use Rattle.std.proofs.lemmas.List.{map-append, take_more}
use Rattle.std.proofs.lemmas.List.Elements.{All-cons, All-contains, All-head, All-nil, All-push, All-tail, All-weaker, Contains-append_cases}
use Rattle.std.proofs.lemmas.List.Elements.{Contains-append_left, Contains-push}
use Rattle.std.proofs.lemmas.Option.{slice_get_within}
use Rattle.sig_bits.specs.Bytes.{IsBytes}
use Rattle.sig_cert.specs.Pairs.{signatures_of}
use Rattle.sig_cert.proofs.Exports.{first_or_later, is_signature_of, none_is_there, NoneOutranks}
use Rattle.sig_match.proofs.Exports.{left_there}
use Rattle.sig_core.specs.Hits.{HitsOf}
use Rattle.sig_table.specs.declared.ids.SigId.{SigId}
use Rattle.sig_table.specs.Places.{places_of}
use Rattle.sig_table.specs.Ranked.{ranked}
use Rattle.sig_table.specs.Tables.{ArePriorities, IsTable}
use Rattle.sig_table.specs.Views.{SignatureView, TableView}
use Rattle.sig_find.specs.Additions.{AreOverBelow, Escapes, IsAddition, IsEscape, IsOver, addition_by}
use Rattle.sig_find.specs.declared.life.Fate.{Fate}
use Rattle.sig_find.specs.declared.life.Fate.TheVariants as fate
use Rattle.sig_find.specs.Finding.{IsOfFormat}
use Rattle.sig_find.specs.Inclusions.{IsIncluded, NoneHits}
use Rattle.sig_find.specs.Leaving.{IsNeverLeft, IsSometimesLeft, LeavesFormat}
use Rattle.sig_find.proofs.LeavingLemmas.{hits_at, hits_of_at, left_stays, stays_left}
use Rattle.sig_find.proofs.PairLaws.{left_by}
use Rattle.sig_find.proofs.WrittenLemmas.{signatures_are_of}

-- a table with other priorities is one
pub ranked_is_table : (table : TableView) (pairs : List (ℕ × ℕ)) → IsTable table → ArePriorities (length table.formats) pairs → IsTable (ranked table pairs)
ranked_is_table table pairs is are = record {
  formats = is.formats;
  signatures = is.signatures;
  puids = is.puids;
  different_puids = is.different_puids;
  each = is.each;
  different_numbers = is.different_numbers;
  in_order = is.in_order;
  priorities = are;
}

-- what holds of each of these signatures holds of each of their places
all_places : (P : ℕ → Type 0) (signatures : List SigId) → All (λ s. P s.0) signatures → All P (map (λ (s : SigId). s.0) signatures)
all_places P [] all = All-nil P
all_places P (s ∷ signatures) all =
    All-cons P s.0 (map (λ (s : SigId). s.0) signatures) (All-head (λ (s : SigId). P s.0) s signatures all)
    (all_places P signatures (All-tail (λ (s : SigId). P s.0) s signatures all))

pub own_are_of : (table : TableView) (format : ℕ) → All (IsOfFormat table format) (signatures_of table format)
own_are_of table format = all_places (IsOfFormat table format) (places_of format 0 table.signatures) (signatures_are_of table format)

module _ (table : TableView) (pairs : List (ℕ × ℕ)) (format : ℕ) (over : List ℕ) (are : AreOverBelow table pairs format (length table.signatures) over) where
  -- where none of the signatures over it hits a file, no format that is hit outranks it
  none_over : (file : List ℕ) → NoneHits table over file → NoneOutranks (ranked table pairs) file format
  none_over file none higher place at outranks =
      All-contains (λ index. ¬ HitsOf table index file) over place none
      (are.none_missing place (slice_get_within table.signatures place at.signature at.at)
      (record { higher = higher; of = (at.signature, at.at, at.of_format); over = outranks }))
      (hits_of_at (ranked table pairs) file higher place at)

  -- a file that one of its signatures hits and none of those over it does leaves the format
  pub escape_leaves : IsTable (ranked table pairs) → Escapes table (signatures_of table format) over → IsSometimesLeft (ranked table pairs) format
  escape_leaves is escapes =
      let t = ranked table pairs in
      let of : IsOfFormat t format escapes.signature = All-contains (IsOfFormat table format) (signatures_of table format) escapes.signature
      (own_are_of table format) escapes.is_own in
      let left = left_there t escapes.file is escapes.is_file in
      record {
        file = escapes.file;
        is_file = escapes.is_file;
        leaves = record {
          left = left.0;
          is_left = left.1;
          is_in = stays_left t escapes.file format escapes.signature left.0 left.1 (hits_at t escapes.file format escapes.signature of escapes.hits)
              (none_over escapes.file escapes.none_hits);
        };
      }

  -- a file that leaves the format is hit by no signature over it
  none_hits : (file : List ℕ) → LeavesFormat (ranked table pairs) file format → NoneHits table over file
  none_hits file leaves =
      All-weaker (IsOver table pairs format) (λ index. ¬ HitsOf table index file)
      (λ index over hits.
      left_stays (ranked table pairs) file format leaves.left leaves.is_left leaves.is_in over.higher index
      (hits_at (ranked table pairs) file over.higher index over.of hits) over.over) over are.each

  -- where each file that one of its signatures hits is hit by one of those over it, no file leaves the format
  pub included_leave_none : All (λ s. IsIncluded table s over) (signatures_of table format) → IsNeverLeft (ranked table pairs) format
  included_leave_none included file bytes leaves =
      let t = ranked table pairs in
      let by = left_by t file format leaves.left leaves.is_left leaves.is_in in
      let own = is_signature_of table format by.index by.hits.signature by.hits.at by.hits.of_format in
      All-contains (λ s. IsIncluded table s over) (signatures_of table format) by.index included own file bytes (hits_of_at t file format by.index by.hits)
      (none_hits file leaves)

pub escape_tells : (table : TableView) (pairs : List (ℕ × ℕ)) (pair : ℕ × ℕ) (over : List ℕ) (budget : ℕ) (found : Fate) → IsTable table
    → ArePriorities (length table.formats) (pairs ++ pair ∷ [])
    → AreOverBelow table (pairs ++ pair ∷ []) pair.1 (length table.signatures) over → IsEscape table (signatures_of table pair.1) over budget found
    → IsAddition table pairs pair budget (addition_by found)
escape_tells table pairs pair over budget fate.Alive is more are escapes =
    (more, escape_leaves table (pairs ++ pair ∷ []) pair.1 over are (ranked_is_table table (pairs ++ pair ∷ []) is more) escapes)
escape_tells table pairs pair over budget fate.Dead is more are included = (more, included_leave_none table (pairs ++ pair ∷ []) pair.1 over are included)
escape_tells table pairs pair over budget fate.Unknown is more are escape = (
  more,
  record {
    over = over;
    are_over = are;
    signature = escape.signature;
    of = All-contains (IsOfFormat table pair.1) (signatures_of table pair.1) escape.signature (own_are_of table pair.1) escape.is_own;
    beyond = escape.beyond;
  },
)

-- ---- the other formats

-- a file that leaves another format leaves it still
leaves_still : (table : TableView) (pairs : List (ℕ × ℕ)) (pair : ℕ × ℕ) (file : List ℕ) (format : ℕ) → IsTable (ranked table (pairs ++ pair ∷ []))
    → IsBytes file → (format ≡ pair.1 → ⊥)
    → LeavesFormat (ranked table pairs) file format → LeavesFormat (ranked table (pairs ++ pair ∷ [])) file format
leaves_still table pairs pair file format is bytes other leaves =
    let before = ranked table pairs in
    let after = ranked table (pairs ++ pair ∷ []) in
    let by = left_by before file format leaves.left leaves.is_left leaves.is_in in
    let left = left_there after file is bytes in
    let stays = left_stays before file format leaves.left leaves.is_left leaves.is_in in
    let none : NoneOutranks after file format = λ higher place at outranks. elim (Contains-append_cases pairs (pair ∷ []) (higher, format) outranks) [
      | inl listed ↦ stays higher place (record { signature = at.signature; at = at.at; of_format = at.of_format; hits = at.hits }) listed
      | inr last ↦ other (ap (λ (p : ℕ × ℕ). p.1) (only_one (higher, format) pair last))
    ] in
    record {
      left = left.0;
      is_left = left.1;
      is_in = stays_left after file format by.index left.0 left.1 (record
          { signature = by.hits.signature; at = by.hits.at; of_format = by.hits.of_format; hits = by.hits.hits }) none;
    }
  where
    only_one : (p q : ℕ × ℕ) → Contains (q ∷ []) p → p ≡ q
    only_one p q there = elim (first_or_later q [] p there) [ inl same ↦ sym same | inr later ↦ absurd (none_is_there p later) ]

pub additions_keep_formats_alive : (table : TableView) (pairs : List (ℕ × ℕ)) (pair : ℕ × ℕ) (format : ℕ) → IsTable (ranked table (pairs ++ pair ∷ []))
    → IsSometimesLeft (ranked table (pairs ++ pair ∷ [])) pair.1 → IsSometimesLeft (ranked table pairs) format
    → IsSometimesLeft (ranked table (pairs ++ pair ∷ [])) format
additions_keep_formats_alive table pairs pair format is lower alive = elim (cases_eq format pair.1) [
  | inl same ↦ subst (IsSometimesLeft (ranked table (pairs ++ pair ∷ []))) (sym same) lower
  | inr other ↦ record {
    file = alive.file;
    is_file = alive.is_file;
    leaves =
        leaves_still table pairs pair alive.file format is alive.is_file other alive.leaves;
  }
]

-- ---- the signatures over a format, one by one

pub none_below : (table : TableView) (pairs : List (ℕ × ℕ)) (format : ℕ) → AreOverBelow table pairs format 0 []
none_below table pairs format = record { each = All-nil (IsOver table pairs format); none_missing = λ index below. absurd (omega arith) }

pub one_found : (table : TableView) (pairs : List (ℕ × ℕ)) (format n : ℕ) (found : List ℕ) → AreOverBelow table pairs format n found
    → IsOver table pairs format n → AreOverBelow table pairs format (n + 1) (found ++ n ∷ [])
one_found table pairs format n found are over = record {
  each = All-push (IsOver table pairs format) found n are.each over;
  none_missing = λ index below own. elim (cases_eq index n) [
    | inl same ↦ subst (Contains (found ++ n ∷ [])) (sym same) (Contains-push found n)
    | inr other ↦ Contains-append_left found (n ∷ []) index (are.none_missing index (omega arith) own)
  ];
}

pub one_passed : (table : TableView) (pairs : List (ℕ × ℕ)) (format n : ℕ) (found : List ℕ) → AreOverBelow table pairs format n found
    → (IsOver table pairs format n → ⊥) → AreOverBelow table pairs format (n + 1) found
one_passed table pairs format n found are not_over = record {
  each = are.each;
  none_missing = λ index below own. elim (cases_eq index n) [
    | inl same ↦ absurd (not_over (subst (IsOver table pairs format) same own))
    | inr other ↦ are.none_missing index (omega arith) own
  ];
}

-- a signature of this format is over the lower one of a pair where the format is the higher one, or is over it by the pairs before
pub over_by_format : (table : TableView) (pairs : List (ℕ × ℕ)) (pair : ℕ × ℕ) (index format : ℕ)
    → option_map (λ s. s.format) (slice_get table.signatures index) ≡ Some format
    → IsOver table (pairs ++ pair ∷ []) pair.1 index ↔ ((format ≡ pair.0) ⊎ Contains pairs (format, pair.1))
over_by_format table pairs pair index format read =
    let there = one_of (slice_get table.signatures index) format read in (
      λ over.
          let own : Some over.of.0.format ≡ Some format = ap (option_map (λ (s : SignatureView). s.format)) (sym over.of.1) ∙ read in
          let same : over.higher ≡ format = sym over.of.2 ∙ some_is own in
          elim (Contains-append_cases pairs (pair ∷ []) (over.higher, pair.1) over.over) [
            | inl listed ↦ inr (subst (λ h. Contains pairs (h, pair.1)) same listed)
            | inr last ↦ inl (sym same ∙ ap (λ (p : ℕ × ℕ). p.0) (only (over.higher, pair.1) last))
          ],
      λ is. record {
        higher = format;
        of = there;
        over = elim is [
          | inl same ↦ subst (λ h. Contains (pairs ++ pair ∷ []) (h, pair.1)) (sym same) (Contains-push pairs pair)
          | inr listed ↦ Contains-append_left pairs (pair ∷ []) (format, pair.1) listed
        ];
      },
    )
  where
    some_is : {a b : ℕ} → Some a ≡ Some b → a ≡ b
    some_is same = cc

    one_of : (o : Option SignatureView) (f : ℕ) → option_map (λ s. s.format) o ≡ Some f → (s : SignatureView) × (o ≡ Some s) × (s.format ≡ f)
    one_of None f is = absurd (let e : None ≡ Some f = is in cc)
    one_of (Some s) f is = (s, refl, some_is is)

    only : (p : ℕ × ℕ) → Contains (pair ∷ []) p → p ≡ pair
    only p there = elim (first_or_later pair [] p there) [ inl same ↦ sym same | inr later ↦ absurd (none_is_there p later) ]

-- ---- the signatures of the lower format, one by one

pub one_more_included : (table : TableView) (others : List ℕ) (own : List SigId) (i : ℕ) (d : SigId) → i < length own
    → All (λ s. IsIncluded table s others) (map (λ (s : SigId). s.0) (take i own)) → IsIncluded table (get_or own i d).0 others
    → All (λ s. IsIncluded table s others) (map (λ (s : SigId). s.0) (take (i + 1) own))
one_more_included table others own i d within before here =
    rw (take_more own i d within, map-append) (All-push (λ s. IsIncluded table s others) (map (λ (s : SigId). s.0) (take i own)) (get_or own i d).0 before here)

pub own_within : (table : TableView) (format : ℕ) → All (λ index. index < length table.signatures) (signatures_of table format)
own_within table format =
    All-weaker (IsOfFormat table format) (λ index. index < length table.signatures) (λ index of. slice_get_within table.signatures index of.0 of.1)
    (signatures_of table format) (own_are_of table format)

pub over_within : (table : TableView) (pairs : List (ℕ × ℕ)) (format : ℕ) (over : List ℕ) → All (IsOver table pairs format) over
    → All (λ index. index < length table.signatures) over
over_within table pairs format over each =
    All-weaker (IsOver table pairs format) (λ index. index < length table.signatures) (λ index own. slice_get_within table.signatures index own.of.0 own.of.1)
    over each
