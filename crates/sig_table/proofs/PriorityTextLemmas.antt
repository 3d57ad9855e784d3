-- A pair is read of the texts of its formats' PUIDs, and of no others.
use Rattle.std.proofs.Common.{◌≡◌, ℕ, ◌==◌, false, nat_eq, List, [], ◌∷◌, length, get_or, sym, ap, ◌∙◌, refl, eq-eqb, inl, inr, arith, Some, Ok}
use Rattle.std.specs.Prelude.{slice_get, All}
use Rattle.std.proofs.lemmas.Bool.{cases_Bool, eqb-true, false≢true, ne_eqb}
use Rattle.std.proofs.lemmas.List.Elements.{All-contains}
use Rattle.std.proofs.lemmas.List.Quantifiers.{position-Some}
use Rattle.std.proofs.lemmas.Option.{slice_get-get_or, slice_get_within}
use Rattle.std.specs.Option.{ok_or}
use Rattle.csv.specs.Records.{field_at}
use Rattle.sig_table.proofs.FormatsAgainLemmas.{Contains-slice_get, puid_eq-true}
use Rattle.sig_table.proofs.PairsAgainLemmas.{index-found}
use Rattle.sig_table.proofs.PuidLemmas.{puid_of-puid_text, puid_text-puid_of}
use Rattle.sig_table.proofs.RowLemmas.{bind-ok, ok_or-ok}
use Rattle.sig_table.specs.declared.error.TableError.TheVariants as error
use Rattle.sig_table.specs.declared.error.TableFile.TheVariants.{Priorities}
use Rattle.sig_table.specs.declared.puid.Puid.{Puid}
use Rattle.sig_table.specs.Loading.{pair_of, pair_of_two, pair_with, index_in}
use Rattle.sig_table.specs.Puids.{puid_eq, puid_of, puid_text}
use Rattle.sig_table.specs.Rows.{text_at}
use Rattle.sig_table.specs.RowTexts.{PriorityText}
use Rattle.sig_table.specs.Tables.{AllDifferent, IsNumber}

-- where a PUID is found, it stands
pub found-there : (formats : List Puid) (p : Puid) (i : ℕ) → index_in formats p ≡ Some i → slice_get formats i ≡ Some p
found-there formats p i h =
    let found = position-Some (puid_eq p) formats i p h in
    slice_get-get_or formats i p found.0 ∙ ap Some (sym (puid_eq-true p (get_or formats i p) found.1))

-- two fields
two_fields : (fields : List (List ℕ)) → length fields ≡ 2 → fields ≡ text_at fields 0 ∷ text_at fields 1 ∷ []
unfolding field_at
two_fields [] h = absurd (omega arith)
two_fields (a ∷ []) h = absurd (omega arith)
two_fields (a ∷ b ∷ []) h = refl
two_fields (a ∷ b ∷ c ∷ later) h = absurd (omega arith)

-- a pair of two formats
of_two : (n above below : ℕ) (pair : ℕ × ℕ) → pair_of_two n above below ≡ Ok pair → (pair ≡ (above, below)) × (nat_eq above below ≡ false)
of_two n above below pair h = elim (cases_Bool (nat_eq above below)) [
  | inl t ↦ absurd (cc (rw t at h))
  | inr f ↦ (let same : (above, below) ≡ pair = cc (rw f at h) in sym same, f)
]

spelled_with : (formats : List Puid) (n : ℕ) (fields : List (List ℕ)) (higher lower : List ℕ) (pair : ℕ × ℕ) → fields ≡ higher ∷ lower ∷ []
    → pair_with formats n higher lower ≡ Ok pair → PriorityText formats fields pair
spelled_with formats n fields higher lower pair cut h =
    let p = bind-ok (ok_or (puid_of higher) (error.Puid Priorities n)) _ pair h in
    let q = bind-ok (ok_or (puid_of lower) (error.Puid Priorities n)) _ pair p.2 in
    let above = bind-ok (ok_or (index_in formats p.0) (error.PriorityUnknown n)) _ pair q.2 in
    let below = bind-ok (ok_or (index_in formats q.0) (error.PriorityUnknown n)) _ pair above.2 in
    let two = of_two n above.0 below.0 pair below.2 in
    let first : pair.0 ≡ above.0 = ap (λ (x : ℕ × ℕ). x.0) two.0 in
    let second : pair.1 ≡ below.0 = ap (λ (x : ℕ × ℕ). x.1) two.0 in
    let higher_is : puid_text p.0 ≡ higher = puid_text-puid_of higher (Some p.0) (sym (ok_or-ok _ _ _ p.1)) in
    let lower_is : puid_text q.0 ≡ lower = puid_text-puid_of lower (Some q.0) (sym (ok_or-ok _ _ _ q.1)) in
    record {
      higher = p.0;
      lower = q.0;
      cut = cut ∙ rw (higher_is, lower_is) refl;
      is_higher = ap (slice_get formats) first ∙ found-there formats p.0 above.0 (ok_or-ok _ _ _ above.1);
      is_lower = ap (slice_get formats) second ∙ found-there formats q.0 below.0 (ok_or-ok _ _ _ below.1);
      two = λ same. false≢true (sym two.1 ∙ eq-eqb above.0 below.0 (sym first ∙ same ∙ second));
    }

pub pair_is_spelled : (formats : List Puid) (n : ℕ) (fields : List (List ℕ)) (pair : ℕ × ℕ) → pair_of formats n fields ≡ Ok pair
    → PriorityText formats fields pair
unfolding pair_of
pair_is_spelled formats n fields pair h = elim (cases_Bool (length fields == 2)) [
  | inl t ↦ spelled_with formats n fields (text_at fields 0) (text_at fields 1) pair (two_fields fields (eqb-true _ _ t)) (rw t at h)
  | inr f ↦ absurd (cc (rw f at h))
]

pub pair_is_read : (formats : List Puid) → All (λ p. IsNumber p.number) formats → AllDifferent formats → (n : ℕ) (fields : List (List ℕ)) (pair : ℕ × ℕ)
    → PriorityText formats fields pair → pair_of formats n fields ≡ Ok pair
unfolding pair_of field_at
pair_is_read formats puids different n fields pair text =
    let h_is : IsNumber text.higher.number = All-contains (λ p. IsNumber p.number) formats text.higher puids
    (Contains-slice_get formats pair.0 text.higher text.is_higher) in
    let l_is : IsNumber text.lower.number = All-contains (λ p. IsNumber p.number) formats text.lower puids
    (Contains-slice_get formats pair.1 text.lower text.is_lower) in
    rw (
      text.cut,
      puid_of-puid_text text.higher.registry text.higher.number h_is.0 h_is.1,
      puid_of-puid_text text.lower.registry text.lower.number l_is.0 l_is.1,
      index-found formats pair.0 text.higher different (slice_get_within formats pair.0 text.higher text.is_higher) text.is_higher,
      index-found formats pair.1 text.lower different (slice_get_within formats pair.1 text.lower text.is_lower) text.is_lower,
      ne_eqb pair.0 pair.1 text.two,
    ) refl
