-- Facts of tables that other crates use.
use Rattle.std.proofs.Common.{◌≡◌, ℕ, ◌<◌, ◌&&◌, Bool, nat_eq, List, [], ◌∷◌, length, slice_index_or, Contains, Decides, subst, sym, ◌∙◌, refl, inl, inr, arith}
use Rattle.std.proofs.lemmas.Bool.{cases_Bool, false≢true}
use Rattle.std.proofs.lemmas.Bool.Decides.{Decides-and, Decides-eqb}
use Rattle.std.proofs.lemmas.List.Elements.{Contains-append_cases, Contains-append_right}
use Rattle.std.proofs.lemmas.List.Folds.{Any-from_list_any, list_any-from_Any}
pub use Rattle.sig_table.proofs.FormatsAgainLemmas.{Contains-cons_cases}
use Rattle.sig_table.proofs.RankingLemmas.{above-trans, is_above-Decides}
use Rattle.sig_table.specs.Ranking.{IsAbove, NoCycle, Outranks, is_above, ranks}

-- the only member of a list
only_member : (x y : ℕ) → Contains (x ∷ []) y → y ≡ x
only_member x y c = let first : c.0 ≡ 0 = (let lt = c.1 in omega arith) in sym (rw first at c.2)

-- a member that no member is above
record IsTop (pairs : List (ℕ × ℕ)) (formats : List ℕ) : Type 0 where
  pub top : ℕ
  pub member : Contains formats top
  pub above_none : (g : ℕ) → Contains formats g → IsAbove pairs g top → ⊥

-- one format more, in front
top_of : (pairs : List (ℕ × ℕ)) (x : ℕ) (formats : List ℕ) → NoCycle pairs → IsTop pairs (x ∷ formats)
top_of pairs x [] none = record {
  top = x;
  member = (0, omega arith, refl);
  above_none = λ g c way. none x (subst (λ y. IsAbove pairs y x) (only_member x g c) way);
}
top_of pairs x (y ∷ formats) none =
    let rest = top_of pairs y formats none in
    let test = is_above-Decides pairs x rest.top in
    elim (cases_Bool (is_above pairs x rest.top)) [
      | inl over ↦ record {
        top = x;
        member = (0, omega arith, refl);
        above_none = λ g c way. elim (Contains-append_cases (x ∷ []) (y ∷ formats) g c) [
          | inl first ↦ none x (subst (λ z. IsAbove pairs z x) (only_member x g first) way)
          | inr later ↦ rest.above_none g later (above-trans pairs g x rest.top way (test.0 over))
        ];
      }
      | inr not_over ↦ record {
        top = rest.top;
        member = Contains-append_right (x ∷ []) (y ∷ formats) rest.top rest.member;
        above_none = λ g c way. elim (Contains-append_cases (x ∷ []) (y ∷ formats) g c) [
          | inl first ↦ false≢true (sym not_over ∙ test.1 (subst (λ z. IsAbove pairs z rest.top) (only_member x g first) way))
          | inr later ↦ rest.above_none g later way
        ];
      }
    ]

pub some_is_not_outranked : (pairs : List (ℕ × ℕ)) (formats : List ℕ) → NoCycle pairs → 0 < length formats
    → (f : ℕ) × Contains formats f × ((g : ℕ) → Contains formats g → Outranks pairs g f → ⊥)
some_is_not_outranked pairs [] none some = absurd (omega arith)
some_is_not_outranked pairs (x ∷ formats) none some =
    let is = top_of pairs x formats none in
    (is.top, is.member, λ g c listed. is.above_none g c ([], listed))

-- the test of one pair
pair-Decides : (pair : ℕ × ℕ) (higher lower : ℕ) → Decides (nat_eq pair.0 higher && nat_eq pair.1 lower) ((pair.0 ≡ higher) × (pair.1 ≡ lower))
pair-Decides pair higher lower = Decides-and _ _ (Decides-eqb pair.0 higher) (Decides-eqb pair.1 lower)

-- a pair with these two numbers
pair_of_both : (a b higher lower : ℕ) → a ≡ higher → b ≡ lower → let pair : ℕ × ℕ = (a, b) in let both : ℕ × ℕ = (higher, lower) in pair ≡ both
pair_of_both a b higher lower p q = cc

-- the test finds exactly a listed pair
pub ranks-Decides : (pairs : List (ℕ × ℕ)) (higher lower : ℕ) → Decides (ranks pairs higher lower) (Outranks pairs higher lower)
ranks-Decides pairs higher lower =
    let test : ℕ × ℕ → Bool = λ pair. nat_eq pair.0 higher && nat_eq pair.1 lower in
    let both : ℕ × ℕ = (higher, lower) in
    let stands : ℕ → ℕ × ℕ → Type 0 = λ k pair. slice_index_or pairs k pair ≡ pair in (
      λ e.
          let some = Any-from_list_any test pairs e in
          let same = (pair-Decides some.1 higher lower).0 some.4 in
          (some.0, some.2, subst (stands some.0) (pair_of_both some.1.0 some.1.1 higher lower same.0 same.1) some.3),
      λ w. list_any-from_Any test pairs (w.0, both, w.1, w.2, (pair-Decides both higher lower).1 (refl, refl)),
    )
