-- The rows of a priority file give its pairs, or a first faulty one.
use Rattle.std.proofs.Common.{◌≡◌, ℕ, ◌<◌, true, false, nat_eq, List, [], ◌∷◌, ◌++◌, length, sym, ap, subst, eq-eqb, ◌∙◌, refl, inl, inr, Some, None, Ok, Err}
use Rattle.std.proofs.lemmas.Bool.{cases_Bool, false≢true}
use Rattle.std.proofs.lemmas.List.Elements.{All-pop, Contains-append_left, Contains-push}
use Rattle.std.specs.Prelude.{Contains}
use Rattle.std.proofs.lemmas.List.Quantifiers.{position-Some}
use Rattle.sig_table.proofs.BelowLemmas.{listed-Decides, no_fault}
use Rattle.sig_table.proofs.JudgingLemmas.{FirstOf-one, Turns, answered, continued, continues, stopped, stops, there_or_not}
use Rattle.sig_table.proofs.PairLemmas.{with_pair-faulty, with_pair-more, with_pair-unread}
use Rattle.sig_table.proofs.AddedLemmas.{not_before}
use Rattle.sig_table.proofs.PriorityLemmas.{no_priorities, one_priority_more}
use Rattle.sig_table.proofs.RankingLemmas.{is_above-Decides, wider}
use Rattle.sig_table.specs.declared.error.TableError.{TableError}
use Rattle.sig_table.specs.declared.error.TableError.TheVariants as error
use Rattle.sig_table.specs.declared.error.TableFile.TheVariants.{Priorities}
use Rattle.sig_table.specs.declared.puid.Puid.{Puid}
use Rattle.sig_table.specs.Judging.{WriteAll}
use Rattle.sig_table.specs.Loading.{is_listed, is_priority_header, pair_fault, pair_of, pair_of_two, pairs_of, index_in, with_pair}
use Rattle.sig_table.specs.PriorityRows.{ArePairsOf, BeginsWithPairHeader, HasCycle, HasFirstPairFault, IsFaultOfPair, IsPairFault, IsPriorityFaultOf}
use Rattle.sig_table.specs.PriorityRows.{WritesPair}
use Rattle.sig_table.specs.Puids.{puid_eq, puid_of}
use Rattle.sig_table.specs.Ranking.{is_above}
use Rattle.sig_table.specs.Rows.{text_at}
use Rattle.sig_table.specs.Tables.{AllDifferent, ArePriorities}

-- the two formats of a pair that is read are there, and are two
pub record Fits (formats : ℕ) (pair : ℕ × ℕ) : Type 0 where
  pub within : (pair.0 < formats) × (pair.1 < formats)
  pub two : pair.0 ≡ pair.1 → ⊥

two-fits : (formats n above below : ℕ) (pair : ℕ × ℕ) → above < formats → below < formats → pair_of_two n above below ≡ Ok pair → Fits formats pair
two-fits formats n above below pair h l is = elim (cases_Bool (nat_eq above below)) [
  | inl t ↦ absurd (cc (rw t at is))
  | inr f ↦
      let same : (above, below) ≡ pair = cc (rw f at is) in
      subst (Fits formats) same (record { within = (h, l); two = λ e. false≢true (sym f ∙ eq-eqb above below e) })
]

pair_of-fits : (formats : List Puid) (n : ℕ) (fields : List (List ℕ)) (pair : ℕ × ℕ) → pair_of formats n fields ≡ Ok pair → Fits (length formats) pair
unfolding pair_of
pair_of-fits formats n fields pair is = elim (cases_Bool (nat_eq (length fields) 2)) [
  | inl t ↦ elim (there_or_not (puid_of (text_at fields 0))) [
    | inl none ↦ absurd (cc (rw (t, none) at is))
    | inr h ↦ elim (there_or_not (puid_of (text_at fields 1))) [
      | inl none ↦ absurd (cc (rw (t, h.1, none) at is))
      | inr l ↦ elim (there_or_not (index_in formats h.0)) [
        | inl none ↦ absurd (cc (rw (t, h.1, l.1, none) at is))
        | inr above ↦ elim (there_or_not (index_in formats l.0)) [
          | inl none ↦ absurd (cc (rw (t, h.1, l.1, above.1, none) at is))
          | inr below ↦
              let first = position-Some (puid_eq h.0) formats above.0 h.0 above.1 in
              let second = position-Some (puid_eq l.0) formats below.0 l.0 below.1 in
              two-fits (length formats) n above.0 below.0 pair first.0 second.0 (rw (t, h.1, l.1, above.1, below.1) at is)
        ]
      ]
    ]
  ]
  | inr f ↦ absurd (cc (rw f at is))
]

-- a pair that leads back makes a cycle
closes : (pairs : List (ℕ × ℕ)) (pair : ℕ × ℕ) → is_above pairs pair.1 pair.0 ≡ true → HasCycle (pairs ++ pair ∷ [])
closes pairs pair back =
    let way = (is_above-Decides pairs pair.1 pair.0).0 back in (
      pair.0,
      (
        pair.1 ∷ way.0,
        (
          Contains-push pairs pair,
          wider pairs (pairs ++ pair ∷ []) (λ p c. Contains-append_left pairs (pair ∷ []) p c) pair.1 way.0
              pair.0 way.1,
        ),
      ),
    )

-- the fault of a pair, in plain words
fault_of_pair : (pairs : List (ℕ × ℕ)) (n : ℕ) (pair : ℕ × ℕ) (e : TableError) → pair_fault pairs n pair ≡ Some e → IsFaultOfPair pairs n pair e
unfolding pair_fault
fault_of_pair pairs n pair e is = elim (cases_Bool (is_listed pairs pair)) [
  | inl t ↦ (let same : error.PriorityTwice n ≡ e = cc (rw t at is) in inl ((listed-Decides pairs pair).0 t, sym same))
  | inr new ↦ elim (cases_Bool (is_above pairs pair.1 pair.0)) [
    | inl t ↦ (let same : error.PriorityCycle n ≡ e = cc (rw (new, t) at is) in
        inr (λ c. false≢true (sym new ∙ (listed-Decides pairs pair).1 c), (closes pairs pair t, sym same)))
    | inr none ↦ absurd (cc (rw (new, none) at is))
  ]
]

-- a pair without fault is one priority more
one_more : (formats : List Puid) (pairs : List (ℕ × ℕ)) (n : ℕ) (fields : List (List ℕ)) (pair : ℕ × ℕ) → ArePriorities (length formats) pairs
    → pair_of formats n fields ≡ Ok pair → pair_fault pairs n pair ≡ None
    → ArePriorities (length formats) (pairs ++ pair ∷ [])
one_more formats pairs n fields pair are read fine =
    let fits = pair_of-fits formats n fields pair read in
    let clear = no_fault pairs n pair fine in
    one_priority_more (length formats) pairs pair are fits.within clear.0 (λ up. elim up [ inl same ↦ fits.two (sym same) | inr way ↦ clear.1 way ])

-- priorities before the last one are priorities too
front-pairs : (formats : ℕ) (pairs : List (ℕ × ℕ)) (pair : ℕ × ℕ) → ArePriorities formats (pairs ++ pair ∷ []) → ArePriorities formats pairs
front-pairs formats pairs pair are = record {
  known = (All-pop (λ p. (p.0 < formats) × (p.1 < formats)) (pairs ++ pair ∷ []) pairs (Some pair) refl are.known).0;
  different = front-different pairs are.different;
  no_cycle = λ f way. are.no_cycle f (way.0, wider pairs (pairs ++ pair ∷ []) (λ p c. Contains-append_left pairs (pair ∷ []) p c) f way.0 f way.1);
}
  where
    front-different : (xs : List (ℕ × ℕ)) → AllDifferent (xs ++ pair ∷ []) → AllDifferent xs
    front-different [] d = tt
    front-different (x ∷ xs) d = (λ c. d.0 (Contains-append_left xs (pair ∷ []) x c), front-different xs d.1)

-- a pair with a fault makes no priorities with those before it
faulty_are_not : (formats : ℕ) (pairs : List (ℕ × ℕ)) (n : ℕ) (pair : ℕ × ℕ) (e : TableError) → IsFaultOfPair pairs n pair e
    → ArePriorities formats (pairs ++ pair ∷ []) → ⊥
faulty_are_not formats pairs n pair e fault are = elim fault [
  | inl twice ↦ not_before pairs [] pair are.different twice.0
  | inr cycle ↦ are.no_cycle cycle.1.0.0 cycle.1.0.1
]

-- a pair has one first fault
one_fault : (pairs : List (ℕ × ℕ)) (n : ℕ) (pair : ℕ × ℕ) (a b : TableError) → IsFaultOfPair pairs n pair a → IsFaultOfPair pairs n pair b → a ≡ b
one_fault pairs n pair a b x y =
    let last : TableError → Type 0 = λ e. HasCycle (pairs ++ pair ∷ []) × (e ≡ error.PriorityCycle n) in
    FirstOf-one (Contains pairs pair) (error.PriorityTwice n) last a b (λ x y. x.1 ∙ sym y.1) x y

abbrev pub itself : List (ℕ × ℕ) → List (ℕ × ℕ)
itself pairs = pairs

module _ (formats : List Puid) where
  more : (done : List (ℕ × ℕ)) (n : ℕ) (fields : List (List ℕ)) (s : List (ℕ × ℕ)) → ArePriorities (length formats) done
      → with_pair formats n done fields ≡ Ok s
      → (pair : ℕ × ℕ) × WritesPair formats n fields pair × ArePriorities (length formats) (done ++ pair ∷ []) × (s ≡ done ++ pair ∷ [])
  unfolding with_pair
  more done n fields s are h = elim (answered (pair_of formats n fields)) [
    | inl a ↦ elim (there_or_not (pair_fault done n a.0)) [
      | inl fine ↦ (let same : done ++ a.0 ∷ [] ≡ s = cc (rw (a.1, fine) at h) in (a.0, a.1, one_more formats done n fields a.0 are a.1 fine, sym same))
      | inr fault ↦ absurd (cc (rw (a.1, fault.1) at h))
    ]
    | inr e ↦ absurd (cc (rw e.1 at h))
  ]

  taken : (done : List (ℕ × ℕ)) (n : ℕ) (fields : List (List ℕ)) (pair : ℕ × ℕ) → WritesPair formats n fields pair
      → ArePriorities (length formats) (done ++ pair ∷ []) → with_pair formats n done fields ≡ Ok (done ++ pair ∷ [])
  taken done n fields pair writes are = elim (there_or_not (pair_fault done n pair)) [
    | inl fine ↦ with_pair-more formats n done fields pair writes fine
    | inr e ↦ absurd (faulty_are_not (length formats) done n pair e.0 (fault_of_pair done n pair e.0 e.1) are)
  ]

  faulty : (done : List (ℕ × ℕ)) (n : ℕ) (fields : List (List ℕ)) (e : TableError) → ArePriorities (length formats) done
      → with_pair formats n done fields ≡ Err e → IsPairFault formats done n fields e
  unfolding with_pair
  faulty done n fields e are h = elim (answered (pair_of formats n fields)) [
    | inl a ↦ elim (there_or_not (pair_fault done n a.0)) [
      | inl fine ↦ absurd (cc (rw (a.1, fine) at h))
      | inr fault ↦
          let same : fault.0 ≡ e = cc (rw (a.1, fault.1) at h) in
          inr (a.0, a.1, subst (IsFaultOfPair done n a.0) same (fault_of_pair done n a.0 fault.0 fault.1))
    ]
    | inr f ↦ let same : f.0 ≡ e = cc (rw f.1 at h) in inl (subst (λ x. pair_of formats n fields ≡ Err x) same f.1)
  ]

  refused : (done : List (ℕ × ℕ)) (n : ℕ) (fields : List (List ℕ)) (e : TableError) → ArePriorities (length formats) done → IsPairFault formats done n fields e
      → with_pair formats n done fields ≡ Err e
  refused done n fields e are fault = elim fault [
    | inl unread ↦ with_pair-unread formats n done fields e unread
    | inr pair ↦ elim (there_or_not (pair_fault done n pair.0)) [
      | inl fine ↦ absurd (faulty_are_not (length formats) done n pair.0 e pair.2 (one_more formats done n fields pair.0 are pair.1 fine))
      | inr f ↦
          let same : f.0 ≡ e = one_fault done n pair.0 f.0 e (fault_of_pair done n pair.0 f.0 f.1) pair.2 in
          with_pair-faulty formats n done fields done pair.0 e pair.1 (rw (f.1, same) refl)
    ]
  ]

  -- how the rows of a priority file decide a turn
  pub turns : Turns (with_pair formats) itself (ArePriorities (length formats)) (WritesPair formats) (IsPairFault formats)
  turns = record { front = front-pairs (length formats); more = more; taken = taken; faulty = faulty; refused = refused }

-- no record is no header
nothing_begins : BeginsWithPairHeader [] → ⊥
nothing_begins b = cc b.2

-- a record that is no header is none
other_begins : (header : List (List ℕ)) (records : List (List (List ℕ))) → is_priority_header header ≡ false → BeginsWithPairHeader (header ∷ records) → ⊥
other_begins header records other b = let same : header ≡ b.0 = cc b.2 in cc (sym (subst (λ h. is_priority_header h ≡ true) (sym same) b.3) ∙ other)

pub are_pairs_of : (formats : List Puid) (file : List (List (List ℕ))) (pairs : List (ℕ × ℕ)) → pairs_of formats file ≡ Ok pairs → ArePairsOf formats file pairs
unfolding pairs_of
are_pairs_of formats [] pairs h = absurd (cc h)
are_pairs_of formats (header ∷ records) pairs h = elim (cases_Bool (is_priority_header header)) [
  | inl t ↦
      let c = continues (with_pair formats) itself (ArePriorities (length formats)) (WritesPair formats) (IsPairFault formats) (turns formats) records [] 1
      pairs (no_priorities (length formats)) (rw t at h) in
      record {
        header = header;
        records = records;
        cut = refl;
        is_header = t;
        write = subst (WriteAll (WritesPair formats) 1 records) (sym c.is) c.write;
        are =
            subst (ArePriorities (length formats)) (sym c.is) c.are;
      }
  | inr f ↦ absurd (cc (rw f at h))
]

pub is_priority_fault_of : (formats : List Puid) (file : List (List (List ℕ))) (fault : TableError) → pairs_of formats file ≡ Err fault
    → IsPriorityFaultOf formats file fault
unfolding pairs_of
is_priority_fault_of formats [] fault h = inl (nothing_begins, cc h)
is_priority_fault_of formats (header ∷ records) fault h = elim (cases_Bool (is_priority_header header)) [
  | inl t ↦
      let s = stops (with_pair formats) itself (ArePriorities (length formats)) (WritesPair formats) (IsPairFault formats) (turns formats) records [] 1 fault
      (no_priorities (length formats)) (rw t at h) in
      inr (record {
        header = header;
        earlier = s.earlier;
        fields = s.fields;
        later = s.later;
        cut = ap (λ l. header ∷ l) s.cut;
        is_header = t;
        pairs =
            s.rows;
        write = s.write;
        are = s.are;
        has = s.has;
      })
  | inr f ↦ inl (other_begins header records f, cc (rw f at h))
]

-- and the other way
pub pairs_are_given : (formats : List Puid) (file : List (List (List ℕ))) (pairs : List (ℕ × ℕ)) → ArePairsOf formats file pairs
    → pairs_of formats file ≡ Ok pairs
unfolding pairs_of
pairs_are_given formats file pairs are =
    rw (are.cut, are.is_header) (continued (with_pair formats) itself (ArePriorities (length formats)) (WritesPair formats) (IsPairFault formats)
    (turns formats) are.records [] pairs 1 are.write are.are)

no_header_is_told : (formats : List Puid) (file : List (List (List ℕ))) → (BeginsWithPairHeader file → ⊥)
    → pairs_of formats file ≡ Err (error.Header Priorities)
unfolding pairs_of
no_header_is_told formats [] none = refl
no_header_is_told formats (header ∷ records) none = elim (cases_Bool (is_priority_header header)) [
  | inl t ↦ absurd (none (header, records, refl, t))
  | inr f ↦ rw f refl
]

first_fault_given : (formats : List Puid) (file : List (List (List ℕ))) (fault : TableError) → HasFirstPairFault formats file fault
    → pairs_of formats file ≡ Err fault
unfolding pairs_of
first_fault_given formats file fault is =
    rw (is.cut, is.is_header) (stopped (with_pair formats) itself (ArePriorities (length formats)) (WritesPair formats) (IsPairFault formats) (turns formats)
    is.earlier [] is.pairs 1 is.fields is.later fault is.write is.are is.has)

pub priority_fault_is_given : (formats : List Puid) (file : List (List (List ℕ))) (fault : TableError) → IsPriorityFaultOf formats file fault
    → pairs_of formats file ≡ Err fault
priority_fault_is_given formats file fault is = elim is [
  | inl none ↦ no_header_is_told formats file none.0 ∙ ap (λ e. Err e) (sym none.1)
  | inr first ↦ first_fault_given formats file fault first
]
