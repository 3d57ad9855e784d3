-- When a pair can be added to priorities.
use Rattle.std.proofs.Common.{◌≡◌, ◌∙◌, ◌↔◌, ℕ, zero, suc, ◌<◌, false, List, [], ◌∷◌, ◌++◌, Contains, ap, drop, get_or, length, sym, subst, take, refl, inl}
use Rattle.std.proofs.Common.{inr, arith, None}
use Rattle.std.proofs.Math.Seq.{drop-cons}
use Rattle.std.proofs.lemmas.List.{get_or_default, take-append-drop}
use Rattle.std.proofs.lemmas.Bool.{cases_Bool}
use Rattle.std.proofs.lemmas.List.Elements.{Contains-append_left, Contains-append_right, Contains-push}
use Rattle.sig_table.proofs.BelowLemmas.{listed-Decides, no_fault}
use Rattle.sig_table.proofs.PriorityLemmas.{one_priority_more}
use Rattle.sig_table.proofs.RankingLemmas.{is_above-Decides, wider}
use Rattle.sig_table.specs.Loading.{is_listed, pair_fault}
use Rattle.sig_table.specs.Ranking.{is_above}
use Rattle.sig_table.specs.Tables.{AllDifferent, ArePriorities}

-- where all differ, none of the later ones is among those before
pub not_before : {A : Type 0} (done later : List A) (x : A) → AllDifferent (done ++ x ∷ later) → Contains done x → ⊥
not_before [] later x d c = absurd (let none = c.1 in omega arith)
not_before (y ∷ done) later x d (zero, lt, same) = d.0 (subst (Contains (done ++ x ∷ later)) (sym same)
    (Contains-append_right done (x ∷ later) x (0, omega arith, refl)))
not_before (y ∷ done) later x d (suc k, lt, same) = not_before done later x d.1 (k, omega arith, same)

-- a pair behind others of priorities has no fault
pub no_fault_behind : (formats : ℕ) (all : List (ℕ × ℕ)) → ArePriorities formats all → (n : ℕ) (done later : List (ℕ × ℕ)) (pair : ℕ × ℕ)
    → done ++ pair ∷ later ≡ all → pair_fault done n pair ≡ None
unfolding pair_fault
no_fault_behind formats all are n done later pair whole =
    let new : is_listed done pair ≡ false = elim (cases_Bool (is_listed done pair)) [
      | inl t ↦ absurd (not_before done later pair (subst AllDifferent (sym whole) are.different) ((listed-Decides done pair).0 t))
      | inr f ↦ f
    ] in
    let none : is_above done pair.1 pair.0 ≡ false = elim (cases_Bool (is_above done pair.1 pair.0)) [
      | inl t ↦
          let way = (is_above-Decides done pair.1 pair.0).0 t in
          let listed : Contains all pair = subst (λ l. Contains l pair) whole (Contains-append_right done (pair ∷ later) pair (0, omega arith, refl)) in
          absurd (are.no_cycle pair.0 (
            pair.1 ∷ way.0,
            (
              listed,
              wider done all
                  (λ p c. subst (λ l. Contains l p) whole (Contains-append_left done (pair ∷ later) p c)) pair.1 way.0 pair.0 way.1,
            ),
          ))
      | inr f ↦ f
    ] in
    rw (new, none) refl

-- a pair of two formats that has no fault can be added, and no other
pub added : (formats : ℕ) (pairs : List (ℕ × ℕ)) (n : ℕ) (pair : ℕ × ℕ) → ArePriorities formats pairs → pair.0 < formats → pair.1 < formats
    → (pair.0 ≡ pair.1 → ⊥)
    → (pair_fault pairs n pair ≡ None) ↔ ArePriorities formats (pairs ++ pair ∷ [])
added formats pairs n pair are higher lower two = (
  λ none. (
      let clear = no_fault pairs n pair none in
      one_priority_more formats pairs pair are (higher, lower) clear.0 (λ up. elim up [ inl same ↦ two (sym same) | inr way ↦ clear.1 way ])
      ),
  λ more. no_fault_behind formats (pairs ++ pair ∷ []) more n pairs [] pair refl,
)

-- no format is over itself
pub are_two : (formats : ℕ) (pairs : List (ℕ × ℕ)) (pair : ℕ × ℕ) → ArePriorities formats (pairs ++ pair ∷ []) → pair.0 ≡ pair.1 → ⊥
are_two formats pairs pair more same = more.no_cycle pair.0 ([], subst (λ x. Contains (pairs ++ pair ∷ []) (pair.0, x)) (sym same) (Contains-push pairs pair))

-- a pair of priorities has no fault behind those before it, and is of two formats
pub next_is_fine : (formats : ℕ) (all items : List (ℕ × ℕ)) → items ≡ all → ArePriorities formats all → (i : ℕ) (d : ℕ × ℕ) → i < length items
    → pair_fault (take i all) 0 (get_or items i d) ≡ None
next_is_fine formats all items same are i d within =
    let here : i < length all = rw same at within in
    let whole : take i all ++ get_or all i d ∷ drop (suc i) all ≡ all = ap (λ l. take i all ++ l) (sym (drop-cons all i d here)) ∙ take-append-drop i all in
    rw same (no_fault_behind formats all are 0 (take i all) (drop (suc i) all) (get_or all i d) whole)

pub next_is_of_two : (formats : ℕ) (all items : List (ℕ × ℕ)) → items ≡ all → ArePriorities formats all → (i : ℕ) (d : ℕ × ℕ) → i < length items
    → (get_or items i d).0 ≡ (get_or items i d).1 → ⊥
next_is_of_two formats all items same are i d within equal =
    let pair : ℕ × ℕ = get_or items i d in
    are.no_cycle pair.0 (
      [],
      subst (λ x. Contains all (pair.0, x)) (sym equal)
          (subst (λ l. Contains l pair) same (i, within, get_or_default items i pair d within)),
    )
