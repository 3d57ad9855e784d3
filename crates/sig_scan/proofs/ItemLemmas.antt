-- From items and alternatives to their parts.
use Rattle.sig_scan.proofs.Common.{◌≡◌, ◌↔◌, ℕ, ◌+◌, ◌≤◌, ◌<◌, List, [], ◌∷◌, ◌++◌, length, get_or, drop, replicate, subst, sym, ap, ◌∙◌, inl, inr, slice_range}
use Rattle.sig_scan.proofs.Common.{drop_more, Contains-append_left, Contains-push, Contains-push_cases, HasBit, Atom, AlternativeWord, Word, GainsBits, HasBits}
use Rattle.sig_scan.proofs.Common.{Reaches}
use Rattle.sig_expr.specs.declared.item.Item.TheVariants as item
use Rattle.sig_scan.proofs.ReachLemmas.{Carries, Reaches-join, Reaches-split, Reaches-starts}
use Rattle.sig_scan.proofs.SetLemmas.{GainsBits-more, HasBits-from_gains}

-- the next item of an expression, or the next part of an alternative: from one set to the next
pub Carries-next : {X : Type 0} (L : List X → List ℕ → Type 0) (V : X → List ℕ → Type 0)
    → ((x : X) (xs : List X) (w : List ℕ) → L (x ∷ xs) w ↔ ((u v : List ℕ) × (w ≡ u ++ v) × V x u × L xs v))
    → (xs : List X) (i n : ℕ) (x : X) (file : List ℕ) (S : ℕ → Type 0) (old none new ends : List ℕ) → i < length xs → x ≡ get_or xs i x
    → none ≡ replicate n 0 → GainsBits (Reaches (V x) file (HasBit old)) none new → ends ≡ new → Carries (L xs) (L (drop i xs)) file S old
    → ((a : ℕ) → HasBit ends a → a ≤ length file) × Carries (L xs) (L (drop (i + 1) xs)) file S ends
Carries-next {X} L V law xs i n x file S old none new ends at is clear gains same carries =
    let later : List X = drop (i + 1) xs in
    let rest : drop i xs ≡ x ∷ later = drop_more xs i x at ∙ ap (λ (y : X). y ∷ later) (sym is) in
    let whole : Carries (L xs) (L (x ∷ later)) file S old = subst (λ (l : List X). Carries (L xs) (L l) file S old) rest carries in
    let next : HasBits (Reaches (V x) file (HasBit old)) ends =
    subst (HasBits (Reaches (V x) file (HasBit old))) (sym same) (HasBits-from_gains (Reaches (V x) file (HasBit old)) n none new clear gains) in (
      λ a h. (next.sound a h).within,
      record {
        sound = λ e r. whole.sound e (Reaches-join (L (x ∷ later)) (V x) (L later) file (HasBit old) e
            (λ w u v cut hu hv. (law x later w).1 (u, v, cut, hu, hv)) (Reaches-starts (L later) file _ _ e (λ a _ h. next.sound a h) r));
        complete = λ e r. Reaches-starts (L later) file _ _ e (λ a _ h. next.complete a h)
            (Reaches-split (L (x ∷ later)) (V x) (L later) file (HasBit old) e (λ w. (law x later w).0) (whole.complete e r));
      },
    )

-- where the words of any of the alternatives end
abbrev pub ReachesAny : List (List Atom) → List ℕ → (ℕ → Type 0) → ℕ → Type 0
ReachesAny alternatives file S = Reaches (Word (item.Alt alternatives)) file S

-- at the place of a word another one
Reaches-as : {V : List ℕ → Type 0} (W : List ℕ → Type 0) (file : List ℕ) (S : ℕ → Type 0) (e : ℕ) → (r : Reaches V file S e) → W (slice_range file r.start e)
    → Reaches W file S e
Reaches-as W file S e r word = record { start = r.start; is_start = r.is_start; in_order = r.in_order; within = r.within; is_word = word }

-- the next alternative
pub alternatives_more : (alternatives : List (List Atom)) (next : List Atom) (file : List ℕ) (S : ℕ → Type 0) (old mid new : List ℕ) →
    GainsBits (ReachesAny alternatives file S) old mid → GainsBits (Reaches (AlternativeWord next) file S) mid new →
    GainsBits (ReachesAny (alternatives ++ next ∷ []) file S) old new
alternatives_more alternatives next file S old mid new =
    let all : List (List Atom) = alternatives ++ next ∷ [] in
    let Any : List ℕ → Type 0 = Word (item.Alt all) in
    GainsBits-more (ReachesAny alternatives file S) (Reaches (AlternativeWord next) file S) (ReachesAny all file S) old mid new
    (λ o r. Reaches-as Any file S o r (r.is_word.0, Contains-append_left alternatives (next ∷ []) r.is_word.0 r.is_word.1, r.is_word.2))
    (λ o r. Reaches-as Any file S o r (next, Contains-push alternatives next, r.is_word))
    (λ o r. elim (Contains-push_cases alternatives next r.is_word.0 r.is_word.1) [
      | inl known ↦ inl (Reaches-as (Word (item.Alt alternatives)) file S o r (r.is_word.0, known, r.is_word.2))
      | inr is ↦ inr (Reaches-as (AlternativeWord next) file S o r
          (subst (λ (a : List Atom). AlternativeWord a (slice_range file r.start o)) (sym is) r.is_word.2))
    ])
