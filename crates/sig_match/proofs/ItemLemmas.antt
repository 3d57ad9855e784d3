-- From items and alternatives to their parts.
use Rattle.std.proofs.Common.{◌≡◌, ◌⊎◌, ℕ, ◌+◌, ◌≤◌, ◌<◌, List, [], ◌∷◌, ◌++◌, length, get_or, drop, subst, sym, ap, ◌∙◌, inl, inr, arith, Some}
use Rattle.std.specs.Prelude.{slice_range}
use Rattle.std.proofs.lemmas.List.{drop_more, drop_all}
use Rattle.std.proofs.lemmas.List.Elements.{Contains-append_left, Contains-push, Contains-push_cases}
use Rattle.sig_expr.specs.declared.item.Atom.{Atom}
use Rattle.sig_expr.specs.declared.item.Item.TheVariants as item
use Rattle.sig_expr.specs.Words.{AlternativeWord, PartWord, Word}
use Rattle.sig_match.specs.declared.whole.frontier.Interval.{Interval}
use Rattle.sig_match.specs.Frontiers.{IsIn, HasExactly, Reaches}
use Rattle.sig_match.proofs.ReachLemmas.{Carries, Carries-more, Carries-start, HasExactly-from_Carries, Reaches-words, length-slice_range}

-- the rest of a list and its next element
drop-next : {X : Type 0} (xs : List X) (i : ℕ) (x d : X) → i < length xs → x ≡ get_or xs i d → drop i xs ≡ x ∷ drop (i + 1) xs
drop-next xs i x d at is = drop_more xs i d at ∙ ap (λ y. y ∷ drop (i + 1) xs) (sym is)

-- an alternative's next part
pub Carries-part : (ps : List Atom) (i : ℕ) (p d : Atom) (file : List ℕ) (S : ℕ → Type 0) (old new : List Interval) → i < length ps → p ≡ get_or ps i d
    → Carries (AlternativeWord ps) (AlternativeWord (drop i ps)) file S old → HasExactly (Reaches (PartWord p) file (IsIn old)) new
    → Carries (AlternativeWord ps) (AlternativeWord (drop (i + 1) ps)) file S new
Carries-part ps i p d file S old new at is carries next =
    let P : List Atom → Type 0 = λ l. Carries (AlternativeWord ps) (AlternativeWord l) file S old in
    Carries-more (AlternativeWord ps) (PartWord p) (AlternativeWord (p ∷ drop (i + 1) ps)) (AlternativeWord (drop (i + 1) ps)) file S old new
    (λ w h. h) (λ w u v e hu hv. (u, v, e, hu, hv)) (subst P (drop-next ps i p d at is) carries) next

-- all parts of an alternative are done
pub Carries-parts : (ps : List Atom) (i : ℕ) (file : List ℕ) (S : ℕ → Type 0) (ends : List Interval) → length ps ≤ i → ((a : ℕ) → IsIn ends a → a ≤ length file)
    → Carries (AlternativeWord ps) (AlternativeWord (drop i ps)) file S ends → HasExactly (Reaches (AlternativeWord ps) file S) ends
Carries-parts ps i file S ends all within carries =
    let P : List Atom → Type 0 = λ l. Carries (AlternativeWord ps) (AlternativeWord l) file S ends in
    HasExactly-from_Carries (AlternativeWord ps) file S ends within (subst P (drop_all i ps all) carries)

-- the offsets of a frontier that are within the file
pub Carries-cut : (U : List ℕ → Type 0) (file : List ℕ) (S : ℕ → Type 0) (ends : List Interval)
    → ((a : ℕ) → a ≤ length file → S a → Reaches (Word (item.Gap 0 (Some 0))) file S a) → HasExactly (Reaches (Word (item.Gap 0 (Some 0))) file S) ends
    → Carries U U file S ends
Carries-cut U file S ends stands cut =
    Carries-start U file S ends
    (λ a _ h.
    let r = cut.sound a h in
    let order = r.in_order in
    let none = r.is_word.2 in
    let len = length-slice_range file r.start a r.in_order r.within in
    let same : r.start ≡ a = omega arith in
    subst S same r.is_start)
    (λ a within h. cut.complete a (stands a within h))

-- where the words of any of the alternatives end
abbrev pub ReachesAny : List (List Atom) → List ℕ → (ℕ → Type 0) → ℕ → Type 0
ReachesAny alternatives file S = Reaches (Word (item.Alt alternatives)) file S

-- no alternative has a word
pub HasExactly-no_alternative : (file : List ℕ) (S : ℕ → Type 0) → HasExactly (ReachesAny [] file S) []
HasExactly-no_alternative file S = record {
  sound = λ o h. absurd h;
  complete = λ o r. absurd (let at = r.is_word.1.1 in omega arith);
}

-- the next alternative
pub HasExactly-alternative : (alternatives : List (List Atom)) (next : List Atom) (file : List ℕ) (S : ℕ → Type 0) (old others both : List Interval)
    → HasExactly (ReachesAny alternatives file S) old → HasExactly (Reaches (AlternativeWord next) file S) others
    → HasExactly (λ o. IsIn old o ⊎ IsIn others o) both → HasExactly (ReachesAny (alternatives ++ next ∷ []) file S) both
HasExactly-alternative alternatives next file S old others both before after union = record {
  sound = λ o h.
      elim (union.sound o h) [
        | inl in_old ↦
            Reaches-words (Word (item.Alt alternatives)) (Word (item.Alt (alternatives ++ next ∷ []))) file S o
            (λ w g. (g.0, Contains-append_left alternatives (next ∷ []) g.0 g.1, g.2)) (before.sound o in_old)
        | inr in_others ↦
            Reaches-words (AlternativeWord next) (Word (item.Alt (alternatives ++ next ∷ []))) file S o
            (λ w g. (next, Contains-push alternatives next, g)) (after.sound o in_others)
      ];
  complete = λ o r.
      union.complete o (
      elim (Contains-push_cases alternatives next r.is_word.0 r.is_word.1) [
        | inl known ↦
            inl (before.complete o (record {
              start = r.start;
              is_start = r.is_start;
              in_order = r.in_order;
              within = r.within;
              is_word =
                  (r.is_word.0, known, r.is_word.2);
            }))
        | inr is_next ↦
            (let P : List Atom → Type 0 = λ a. AlternativeWord a (slice_range file r.start o) in
            inr (after.complete o (record {
              start = r.start;
              is_start = r.is_start;
              in_order = r.in_order;
              within = r.within;
              is_word =
                  subst P (sym is_next) r.is_word.2;
            })))
      ]
      );
}
