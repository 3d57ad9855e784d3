-- Pairs without the faulty ones, read once more under other numbers.
use Rattle.std.proofs.Common.{◌≡◌, ℕ, ◌≤◌, true, nat_eq, List, [], ◌∷◌, ◌++◌, length, inl, inr, Ok, None}
use Rattle.std.proofs.lemmas.Bool.{cases_Bool}
use Rattle.sig_table.specs.declared.error.TableError.TheVariants as error
use Rattle.sig_table.specs.declared.puid.Puid.{Puid}
use Rattle.sig_table.specs.Loading.{index_in, is_listed, is_priority_header, pair_fault, pair_of, pair_of_two, pair_with, pairs_of, with_pair}
use Rattle.sig_table.specs.Puids.{puid_of}
use Rattle.sig_table.specs.Ranking.{is_above}
use Rattle.sig_table.specs.Rows.{text_at}
use Rattle.sig_lint.specs.Faults.{done_by, faultless, with_named_pair}
use Rattle.sig_lint.proofs.AgainLemmas.{again, judged-faultless, there_or_not, two_tests}
use Rattle.sig_lint.proofs.TableLemmas.{named-is}

two-again : (n m above below : ℕ) (pair : ℕ × ℕ) → pair_of_two n above below ≡ Ok pair → pair_of_two m above below ≡ Ok pair
two-again n m above below pair h = elim (cases_Bool (nat_eq above below)) [
  | inl same ↦ absurd (cc (rw same at h))
  | inr other ↦ rw other (rw other at h)
]

with-again : (formats : List Puid) (n m : ℕ) (a b : List ℕ) (pair : ℕ × ℕ) → pair_with formats n a b ≡ Ok pair → pair_with formats m a b ≡ Ok pair
with-again formats n m a b pair h = elim (there_or_not (puid_of a)) [
  | inl none ↦ absurd (cc (rw none at h))
  | inr p ↦ elim (there_or_not (puid_of b)) [
    | inl none ↦ absurd (cc (rw (p.1, none) at h))
    | inr q ↦ elim (there_or_not (index_in formats p.0)) [
      | inl none ↦ absurd (cc (rw (p.1, q.1, none) at h))
      | inr above ↦ elim (there_or_not (index_in formats q.0)) [
        | inl none ↦ absurd (cc (rw (p.1, q.1, above.1, none) at h))
        | inr below ↦ rw (p.1, q.1, above.1, below.1) (two-again n m above.0 below.0 pair (rw (p.1, q.1, above.1, below.1) at h))
      ]
    ]
  ]
]

pair_of-again : (formats : List Puid) (fields : List (List ℕ)) (n m : ℕ) (pair : ℕ × ℕ) → pair_of formats n fields ≡ Ok pair
    → pair_of formats m fields ≡ Ok pair
unfolding pair_of
pair_of-again formats fields n m pair h = elim (cases_Bool (nat_eq (length fields) 2)) [
  | inl two ↦ rw two (with-again formats n m (text_at fields 0) (text_at fields 1) pair (rw two at h))
  | inr other ↦ absurd (cc (rw other at h))
]

pair_fault-again : (pairs : List (ℕ × ℕ)) (n m : ℕ) (pair : ℕ × ℕ) → pair_fault pairs n pair ≡ None → pair_fault pairs m pair ≡ None
unfolding pair_fault
pair_fault-again pairs n m pair h =
    two_tests (is_listed pairs pair) (is_above pairs pair.1 pair.0) (error.PriorityTwice n) (error.PriorityCycle n) (error.PriorityTwice m)
    (error.PriorityCycle m) h

with_pair-again : (formats : List Puid) (n m : ℕ) (pairs more : List (ℕ × ℕ)) (fields : List (List ℕ)) → with_pair formats n pairs fields ≡ Ok more
    → with_pair formats m pairs fields ≡ Ok more
unfolding with_pair
with_pair-again formats n m pairs more fields h =
    again (λ k. pair_of formats k fields) (λ k pair. pair_fault pairs k pair) (λ pair. pairs ++ pair ∷ []) (pair_of-again formats fields)
    (pair_fault-again pairs) n m more h

pub faultless_pairs_load : (names : List Puid) (header : List (List ℕ)) (rows : List (List (List ℕ))) → length names ≤ 1000 → is_priority_header header ≡ true
    → pairs_of names (header ∷ faultless (with_named_pair names) 1 [] rows) ≡ Ok (done_by (with_named_pair names) 1 [] rows)
unfolding pairs_of
faultless_pairs_load names header rows few is = rw (is, named-is names few) (judged-faultless (with_pair names) (with_pair-again names) rows 1 1 [])
