-- A record of the priority file is refused for the first fault of its fields, and for no other.
use Rattle.std.proofs.Common.{◌≡◌, ℕ, ◌==◌, true, nat_eq, List, [], ◌∷◌, length, sym, ap, ◌∙◌, refl, eq-eqb, inl, inr, arith, Option, Some, None, Result, Err}
use Rattle.std.specs.Prelude.{◌⊎◌, ◌↔◌, ◌≢◌, Contains, slice_get}
use Rattle.std.specs.List.{list_any}
use Rattle.std.specs.Option.{ok_or}
use Rattle.std.proofs.lemmas.Bool.{cases_Bool, eqb-true, false≢true, lt-ltb}
use Rattle.sig_table.proofs.DraftLemmas.{position-any}
use Rattle.sig_table.proofs.FormatsAgainLemmas.{Contains-cons_cases, Contains-slice_get}
use Rattle.sig_table.proofs.GatheredLemmas.{puid_self}
use Rattle.sig_table.proofs.PriorityTextLemmas.{found-there}
use Rattle.sig_table.proofs.PuidLemmas.{puid_of-puid_text, puid_text-puid_of}
use Rattle.sig_table.proofs.RowFaultLemmas.{is_puid, no_puid, tested}
use Rattle.sig_table.proofs.RowLemmas.{IsNumber-puid_of}
use Rattle.sig_table.specs.declared.error.TableError.{TableError}
use Rattle.sig_table.specs.declared.error.TableError.TheVariants as error
use Rattle.sig_table.specs.declared.error.TableFile.TheVariants.{Priorities}
use Rattle.sig_table.specs.declared.puid.Puid.{Puid}
use Rattle.sig_table.specs.Judging.{◌>>=◌, FirstOf}
use Rattle.sig_table.specs.Loading.{index_in, pair_of, pair_of_two, pair_with}
use Rattle.sig_table.specs.Puids.{puid_eq, puid_of, puid_text}
use Rattle.sig_table.specs.Rows.{text_at}
use Rattle.sig_table.specs.RowTexts.{IsKnown, IsPriorityTextFault, IsPuid}

-- what is read of two texts, where both are some
both_on : {A B C : Type 0} (o : Option A) (u : Option B) (fault : TableError) (f : A → B → Result C TableError) (IsOne IsOther : Type 0)
    (IsLater : TableError → Type 0) (e : TableError)
    → (o ≡ None → ¬ IsOne) → ((x : A) → o ≡ Some x → IsOne) → (u ≡ None → ¬ IsOther) → ((y : B) → u ≡ Some y → IsOther)
    → ((x : A) (y : B) → o ≡ Some x → u ≡ Some y → (f x y ≡ Err e) ↔ IsLater e)
    → (ok_or o fault >>= (λ x. ok_or u fault >>= (λ y. f x y)) ≡ Err e) ↔ FirstOf (¬ IsOne ⊎ ¬ IsOther) fault IsLater e
both_on None u fault f IsOne IsOther IsLater e none one lacks other later =
    (λ h. inl (inl (none refl), cc h), λ first. elim first [ inl there ↦ ap (λ x. Err x) (sym there.1) | inr more ↦ absurd (more.0 (inl (none refl))) ])
both_on (Some x) None fault f IsOne IsOther IsLater e none one lacks other later =
    (λ h. inl (inr (lacks refl), cc h), λ first. elim first [ inl there ↦ ap (λ x. Err x) (sym there.1) | inr more ↦ absurd (more.0 (inr (lacks refl))) ])
both_on (Some x) (Some y) fault f IsOne IsOther IsLater e none one lacks other later =
    let neither : ¬ (¬ IsOne ⊎ ¬ IsOther) = λ k. elim k [ inl a ↦ a (one x refl) | inr b ↦ b (other y refl) ] in
    (λ h. inr (neither, (later x y refl refl).0 h), λ first. elim first [ inl there ↦ absurd (neither there.0) | inr more ↦ (later x y refl refl).1 more.1 ])

-- a format is found
any_format : (formats : List Puid) (p : Puid) → Contains formats p → list_any (puid_eq p) formats ≡ true
any_format [] p c = absurd (let within = c.1 in omega arith)
any_format (q ∷ qs) p c = elim (Contains-cons_cases q qs p c) [
  | inl same ↦ rw (same, puid_self p) refl
  | inr later ↦ elim (cases_Bool (puid_eq p q)) [ inl t ↦ rw t refl | inr f ↦ rw f (any_format qs p later) ]
]

not_found : (formats : List Puid) (p : Puid) → index_in formats p ≡ None → ¬ Contains formats p
not_found formats p none c = let within = position-any (puid_eq p) formats (any_format formats p c) in cc (rw (lt-ltb _ _ within) at none)

-- a text of a PUID, which is one of the formats or is not
is_known : (formats : List Puid) (text : List ℕ) (p : Puid) (i : ℕ) → puid_of text ≡ Some p → index_in formats p ≡ Some i → IsKnown formats text
is_known formats text p i h at = (
  p,
  IsNumber-puid_of text p h,
  sym (puid_text-puid_of text (Some p) (sym h)),
  Contains-slice_get formats i p (found-there formats p i at),
)

not_known : (formats : List Puid) (text : List ℕ) (p : Puid) → puid_of text ≡ Some p → index_in formats p ≡ None → ¬ IsKnown formats text
not_known formats text p h none known =
    let same : known.0 ≡ p = cc (sym (puid_of-puid_text known.0.registry known.0.number known.1.0 known.1.1) ∙ ap puid_of (sym known.2) ∙ h) in
    not_found formats p none (rw (← same) known.3)

-- both the same
same_on : (formats : List Puid) (n : ℕ) (higher lower : List ℕ) (h l : Puid) (above below : ℕ) (e : TableError) → puid_of higher ≡ Some h
    → puid_of lower ≡ Some l → index_in formats h ≡ Some above → index_in formats l ≡ Some below
    → (pair_of_two n above below ≡ Err e) ↔ ((higher ≡ lower) × (e ≡ error.PrioritySelf n))
same_on formats n higher lower h l above below e h_is l_is a_is b_is = elim (cases_Bool (nat_eq above below)) [
  | inl t ↦
      let place : above ≡ below = eqb-true above below t in
      let same : h ≡ l = cc (sym (found-there formats h above a_is) ∙ ap (slice_get formats) place ∙ found-there formats l below b_is) in
      let texts : higher ≡ lower = sym (puid_text-puid_of higher (Some h) (sym h_is)) ∙ ap puid_text same ∙ puid_text-puid_of lower (Some l) (sym l_is) in
      (λ k. (texts, cc (rw t at k)), λ is. rw (t, is.1) refl)
  | inr f ↦ (
    λ k. absurd (cc (rw f at k)),
    λ is.
        let same : h ≡ l = cc (sym h_is ∙ ap puid_of is.0 ∙ l_is) in
        let place : above ≡ below = cc (sym a_is ∙ ap (index_in formats) same ∙ b_is) in
        absurd (false≢true (sym f ∙ eq-eqb above below place)),
  )
]

module _ (formats : List Puid) (n : ℕ) (fields : List (List ℕ)) (e : TableError) where
  -- the fault of two texts of PUIDs
  abbrev IsSame : List ℕ → List ℕ → TableError → Type 0
  IsSame higher lower fault = (higher ≡ lower) × (fault ≡ error.PrioritySelf n)

  abbrev IsOfFormats : List ℕ → List ℕ → TableError → Type 0
  IsOfFormats higher lower = FirstOf (¬ IsKnown formats higher ⊎ ¬ IsKnown formats lower) (error.PriorityUnknown n) (IsSame higher lower)

  refused_with : (higher lower : List ℕ) → (pair_with formats n higher lower ≡ Err e)
      ↔ FirstOf (¬ IsPuid higher ⊎ ¬ IsPuid lower) (error.Puid Priorities n) (IsOfFormats higher lower) e
  refused_with higher lower =
      both_on (puid_of higher) (puid_of lower) (error.Puid Priorities n) _ (IsPuid higher) (IsPuid lower) (IsOfFormats higher lower) e (no_puid higher)
      (is_puid higher) (no_puid lower) (is_puid lower) (λ h l h_is l_is.
      both_on (index_in formats h) (index_in formats l) (error.PriorityUnknown n) _ (IsKnown formats higher) (IsKnown formats lower) (IsSame higher lower) e
      (not_known formats higher h h_is) (λ i. is_known formats higher h i h_is) (not_known formats lower l l_is) (λ i. is_known formats lower l i l_is)
      (λ above below a_is b_is.
      same_on formats n higher lower h l above below e h_is l_is a_is b_is))

  pub pair_is_refused : (pair_of formats n fields ≡ Err e) ↔ IsPriorityTextFault formats n fields e
  unfolding pair_of
  pair_is_refused =
      let texts : TableError → Type 0 = FirstOf (¬ IsPuid (text_at fields 0) ⊎ ¬ IsPuid (text_at fields 1)) (error.Puid Priorities n)
      (IsOfFormats (text_at fields 0) (text_at fields 1)) in
      tested (length fields == 2) (error.Fields Priorities n) _ (length fields ≢ 2) texts e
      (λ f is. false≢true (sym f ∙ eq-eqb _ _ is))
      (λ t other. other (eqb-true _ _ t))
      (λ t. refused_with (text_at fields 0) (text_at fields 1))
