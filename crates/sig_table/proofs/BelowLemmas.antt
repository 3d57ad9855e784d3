-- The formats below each format, once a pair is added.
use Rattle.std.proofs.Common.{◌≡◌, ◌⊎◌, ◌↔◌, ℕ, ◌+◌, ◌<◌, ◌&&◌, Bool, true, false, nat_eq, IsTrue, List, [], ◌∷◌, ◌++◌, length, get_or, slice_set, replicate}
use Rattle.std.proofs.Common.{Contains, Decides, subst, sym, ap, ◌∙◌, refl, inl, inr, arith, Result, Ok, Err, IfOk, None, if◌then◌else◌}
use Rattle.std.proofs.lemmas.Bool.{cases_Bool, cases_eq, false≢true}
use Rattle.std.proofs.lemmas.Bool.Decides.{Decides-and, Decides-eqb}
use Rattle.std.proofs.lemmas.List.{get_or-replicate, get_or-set_other, get_or-set_same, length-replicate}
use Rattle.std.proofs.lemmas.List.Folds.{Any-from_list_any, list_any-from_Any}
use Rattle.std.specs.List.{list_any}
use Rattle.std.specs.Result.{is_err}
use Rattle.sig_table.proofs.RankingLemmas.{IsUpTo, above-by, above-trans, by-above, grows-push, is_above-Decides, no_way}
use Rattle.sig_table.specs.declared.format_set.FormatSet.{FormatSet}
use Rattle.sig_table.specs.FormatSets.{HasFormat}
use Rattle.sig_table.specs.Loading.{is_listed, pair_fault}
use Rattle.sig_table.specs.Ranking.{IsAbove, is_above}
use Rattle.sig_table.specs.RankingViews.{AreBelow}

-- the test over a list finds exactly a listed pair
pub listed-Decides : (pairs : List (ℕ × ℕ)) (pair : ℕ × ℕ) → Decides (list_any (λ q. nat_eq pair.0 q.0 && nat_eq pair.1 q.1) pairs) (Contains pairs pair)
listed-Decides pairs pair =
    let test : ℕ × ℕ → Bool = λ q. nat_eq pair.0 q.0 && nat_eq pair.1 q.1 in
    let stands : ℕ → ℕ × ℕ → Type 0 = λ k q. get_or pairs k q ≡ q in (
      λ e.
          let some = Any-from_list_any test pairs e in
          let same = (both pair some.1).0 some.4 in
          (some.0, some.2, subst (stands some.0) (sym (pair_is pair some.1 same.0 same.1)) some.3),
      λ w. list_any-from_Any test pairs (w.0, pair, w.1, w.2, (both pair pair).1 (refl, refl)),
    )
  where
    both : (p q : ℕ × ℕ) → Decides (nat_eq p.0 q.0 && nat_eq p.1 q.1) ((p.0 ≡ q.0) × (p.1 ≡ q.1))
    both p q = Decides-and _ _ (Decides-eqb p.0 q.0) (Decides-eqb p.1 q.1)

    pair_is : (p q : ℕ × ℕ) → p.0 ≡ q.0 → p.1 ≡ q.1 → p ≡ q
    pair_is p q first second = λ i. (first i, second i)

-- without pairs none is below any
pub none-below : (n : ℕ) (none : FormatSet) (sets : List FormatSet) → ((f : ℕ) → HasFormat none f → ⊥) → sets ≡ replicate n none → AreBelow sets []
unfolding AreBelow
none-below n none sets empty is x within set at y =
    let among : x < n = rw (is, length-replicate) at within in
    let same : set ≡ none = sym at ∙ ap (λ l. get_or l x set) is ∙ get_or-replicate n x none set among in
    (λ h. absurd (empty y (subst (λ s. HasFormat s y) same h)), λ way. absurd (no_way x way.0 y way.1))

module _ (sets : List FormatSet) (pairs : List (ℕ × ℕ)) (rows : AreBelow sets pairs) (h l : ℕ) (lowest added : FormatSet)
    (known : l < length sets) (at_lowest : get_or sets l lowest ≡ lowest) (is_added : (f : ℕ) → HasFormat added f ↔ ((f ≡ l) ⊎ HasFormat lowest f)) where
  -- what is added is the lower format and those below it
  added_is : (f : ℕ) → HasFormat added f ↔ IsUpTo pairs l f
  unfolding AreBelow
  added_is f =
      let row = rows l known lowest at_lowest f in (
        λ has. elim ((is_added f).0 has) [ inl same ↦ inl (sym same) | inr had ↦ inr (row.0 had) ],
        λ up. (is_added f).1 (elim up [ inl same ↦ inl (sym same) | inr way ↦ inr (row.1 way) ]),
      )

  -- a set that has the lower format has them all
  pub there-already : (x : ℕ) (old : FormatSet) → x < length sets → get_or sets x old ≡ old → HasFormat old l → (f : ℕ) → HasFormat added f → HasFormat old f
  unfolding AreBelow
  there-already x old within at has f more =
      let row = rows x within old at in
      let down = (row l).0 has in
      (row f).1 (elim ((added_is f).0 more) [ inl same ↦ subst (λ y. IsAbove pairs x y) same down | inr way ↦ above-trans pairs x l f down way ])

  -- a set of one pair more
  pub raised : (x : ℕ) (old new : FormatSet) → x < length sets → get_or sets x old ≡ old
      → ((f : ℕ) → HasFormat new f ↔ (HasFormat old f ⊎ ((IsTrue (nat_eq x h) ⊎ HasFormat old h) × HasFormat added f)))
      → (f : ℕ) → HasFormat new f ↔ IsAbove (pairs ++ (h, l) ∷ []) x f
  unfolding AreBelow
  raised x old new within at is f =
      let row = rows x within old at in
      let g = grows-push pairs (h, l) in (
        λ has. by-above pairs h l (pairs ++ (h, l) ∷ []) g x f (elim ((is f).0 has) [
          | inl had ↦ inl ((row f).0 had)
          | inr both ↦ inr (elim both.0 [ inl same ↦ inl ((Decides-eqb x h).0 same) | inr had ↦ inr ((row h).0 had) ], (added_is f).0 both.1)
        ]),
        λ way. (is f).1 (elim (above-by pairs h l (pairs ++ (h, l) ∷ []) g x f way) [
          | inl old_way ↦ inl ((row f).1 old_way)
          | inr both ↦ inr (elim both.0 [ inl same ↦ inl ((Decides-eqb x h).1 same) | inr up ↦ inr ((row h).1 up) ], (added_is f).1 both.1)
        ]),
      )

  -- and the sets so far
  pub one_more : (below : List FormatSet) (x : ℕ) (old new : FormatSet) → x < length below → length below ≡ length sets → get_or below x old ≡ old
      → get_or below x old ≡ get_or sets x old
      → ((f : ℕ) → HasFormat new f ↔ (HasFormat old f ⊎ ((IsTrue (nat_eq x h) ⊎ HasFormat old h) × HasFormat added f)))
      → ((k : ℕ) → k < x → (set : FormatSet) → get_or below k set ≡ set → (f : ℕ) → HasFormat set f ↔ IsAbove (pairs ++ (h, l) ∷ []) k f)
      → (k : ℕ) → k < x + 1 → (set : FormatSet) → get_or (slice_set below x new) k set ≡ set → (f : ℕ) → HasFormat set f ↔ IsAbove (pairs ++ (h, l) ∷ []) k f
  one_more below x old new within long at as_before is done k up_to set at_k f = elim (cases_eq k x) [
    | inl same ↦
        let is_new : set ≡ new = sym at_k ∙ ap (λ j. get_or (slice_set below x new) j set) same ∙ get_or-set_same below x new set within in
        rw (is_new, same) (raised x old new (rw (← long) within) (sym as_before ∙ at) is f)
    | inr other ↦ done k (omega arith) set (sym (get_or-set_other below x k new set other) ∙ at_k) f
  ]

-- a pair that is not listed goes last
pub pushed : {T E : Type 0} (r : Result T E) (pairs more : List (ℕ × ℕ)) (pair : ℕ × ℕ) → is_err r ≡ false
    → IfOk r (λ _. more ≡ (if list_any (λ q. nat_eq pair.0 q.0 && nat_eq pair.1 q.1) pairs then pairs else pairs ++ pair ∷ []))
    → (Contains pairs pair → ⊥) → more ≡ pairs ++ pair ∷ []
pushed (Err e) pairs more pair fine keys new = absurd (cc fine)
pushed (Ok x) pairs more pair fine keys new = elim (cases_Bool (list_any (λ q. nat_eq pair.0 q.0 && nat_eq pair.1 q.1) pairs)) [
  | inl t ↦ absurd (new ((listed-Decides pairs pair).0 t))
  | inr f ↦ keys ∙ ap (λ b. if b then pairs else pairs ++ pair ∷ []) f
]

-- two tests of one fact answer alike
pub same_answer : {P Q : Type 0} (a b : Bool) → (q : IsTrue a ↔ P) → P ↔ Q → Decides b Q → a ≡ b
same_answer true true q same d = refl
same_answer true false q same d = absurd (false≢true (d.1 (same.0 (q.0 refl))))
same_answer false true q same d = absurd (false≢true (q.1 (same.1 (d.0 refl))))
same_answer false false q same d = refl

-- a pair without fault is not listed, and is not led back
pub no_fault : (pairs : List (ℕ × ℕ)) (n : ℕ) (pair : ℕ × ℕ) → pair_fault pairs n pair ≡ None → (Contains pairs pair → ⊥) × (IsAbove pairs pair.1 pair.0 → ⊥)
unfolding pair_fault
no_fault pairs n pair fine = elim (cases_Bool (is_listed pairs pair)) [
  | inl t ↦ absurd (cc (rw t at fine))
  | inr new ↦ elim (cases_Bool (is_above pairs pair.1 pair.0)) [
    | inl t ↦ absurd (cc (rw (new, t) at fine))
    | inr none ↦ (λ c. false≢true (sym new ∙ (listed-Decides pairs pair).1 c), λ way. false≢true (sym none ∙ (is_above-Decides pairs pair.1 pair.0).1 way))
  ]
]
