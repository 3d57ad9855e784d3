-- The pairs of the records of a table's pairs are those pairs.
use Rattle.std.proofs.Common.{◌≡◌, ℕ, ◌+◌, ◌<◌, false, nat_eq, List, [], ◌∷◌, ◌++◌, length, map, Contains, sym, ap, subst, append_assoc, append-nil, ◌∙◌, refl}
use Rattle.std.proofs.Common.{arith, inl, inr, Some, Ok}
use Rattle.std.specs.Prelude.{slice_get, All}
use Rattle.std.specs.List.{position_or_len}
use Rattle.std.proofs.lemmas.Bool.{cases_Bool, eqb-true, lt-ltb}
use Rattle.std.proofs.lemmas.List.{take_all}
use Rattle.std.proofs.lemmas.List.Elements.{All-contains, Contains-append_right}
use Rattle.csv.specs.Records.{field_at}
use Rattle.sig_table.proofs.AddedLemmas.{no_fault_behind}
use Rattle.sig_table.proofs.FormatsAgainLemmas.{Contains-slice_get, position-first, slice_get-within}
use Rattle.sig_table.proofs.PuidLemmas.{puid_of-puid_text}
use Rattle.sig_table.specs.Canonical.{pair_record, priority_header}
use Rattle.sig_table.specs.declared.puid.Puid.{Puid}
use Rattle.sig_table.specs.Judging.{judged}
use Rattle.sig_table.specs.Loading.{pair_of, pairs_from, pairs_of, index_in, with_pair}
use Rattle.sig_table.specs.Puids.{puid_eq}
use Rattle.sig_table.specs.Tables.{AllDifferent, ArePriorities, IsNumber}

-- a format is found by its PUID
pub index-found : (formats : List Puid) (f : ℕ) (p : Puid) → AllDifferent formats → f < length formats → slice_get formats f ≡ Some p
    → index_in formats p ≡ Some f
index-found formats f p different within at =
    let place : position_or_len (puid_eq p) formats ≡ f = rw (take_all (length formats) formats (omega arith)) at
    (position-first formats (length formats) f p different at (omega arith)) in
    rw (place, lt-ltb f (length formats) within) refl

module _ (formats : List Puid) (puids : All (λ p. IsNumber p.number) formats) (different : AllDifferent formats) where
  -- the record of a pair is read as the pair
  pair_again : (n : ℕ) (pair : ℕ × ℕ) → pair.0 < length formats → pair.1 < length formats → nat_eq pair.0 pair.1 ≡ false
      → pair_of formats n (pair_record formats pair) ≡ Ok pair
  unfolding pair_of field_at
  pair_again n pair higher lower other =
      let h = slice_get-within formats pair.0 higher in
      let l = slice_get-within formats pair.1 lower in
      let h_is : IsNumber h.0.number = All-contains (λ p. IsNumber p.number) formats h.0 puids (Contains-slice_get formats pair.0 h.0 h.1) in
      let l_is : IsNumber l.0.number = All-contains (λ p. IsNumber p.number) formats l.0 puids (Contains-slice_get formats pair.1 l.0 l.1) in
      rw (
        h.1,
        l.1,
        puid_of-puid_text h.0.registry h.0.number h_is.0 h_is.1,
        puid_of-puid_text l.0.registry l.0.number l_is.0 l_is.1,
        index-found formats pair.0 h.0 different higher h.1,
        index-found formats pair.1 l.0 different lower l.1,
        other,
      ) refl

  module _ (all : List (ℕ × ℕ)) (are : ArePriorities (length formats) all) where
    two : (pair : ℕ × ℕ) → Contains all pair → nat_eq pair.0 pair.1 ≡ false
    two pair listed = elim (cases_Bool (nat_eq pair.0 pair.1)) [
      | inl t ↦ absurd (are.no_cycle pair.0 ([], subst (λ x. Contains all (pair.0, x)) (sym (eqb-true pair.0 pair.1 t)) listed))
      | inr f ↦ f
    ]

    -- the pairs behind the first ones
    later_pairs : (later done : List (ℕ × ℕ)) (n : ℕ) → done ++ later ≡ all → pairs_from formats n done (map (pair_record formats) later) ≡ Ok all
    unfolding judged with_pair
    later_pairs [] done n whole = ap (λ l. Ok l) (sym (append-nil done) ∙ whole)
    later_pairs (pair ∷ later) done n whole =
        let listed : Contains all pair = subst (λ l. Contains l pair) whole (Contains-append_right done (pair ∷ later) pair (0, omega arith, refl)) in
        let within = All-contains (λ p. (p.0 < length formats) × (p.1 < length formats)) all pair are.known listed in
        rw (pair_again n pair within.0 within.1 (two pair listed), no_fault_behind (length formats) all are n done later pair whole)
        (later_pairs later (done ++ pair ∷ []) (n + 1) (append_assoc done (pair ∷ []) later ∙ whole))

    pub pairs_again : pairs_of formats (priority_header ∷ map (pair_record formats) all) ≡ Ok all
    unfolding pairs_of field_at
    pairs_again = later_pairs all [] 1 refl
