-- How a list of names is taken apart.
use Rattle.std.proofs.Common.{◌≡◌, ◌==◌, ◌<◌, ◌+◌, ◌++◌, ◌∷◌, ◌∙◌, [], ℕ, zero, suc, List, Bool, true, false, ap, arith, append_assoc, drop, length, refl, sym}
use Rattle.std.proofs.Common.{take}
use Rattle.std.specs.Prelude.{◌||◌, slice_index}
use Rattle.std.specs.List.{list_any}
use Rattle.std.proofs.lemmas.Bool.{eq-eqb, eqb-true}
use Rattle.std.proofs.lemmas.List.{append-nil}
use Rattle.sig_engines.specs.Listed.{LacksByte, last_name, listed, names_behind}

or_left : (a b : Bool) → (a || b) ≡ false → a ≡ false
or_left false b e = refl
or_left true b e = cc e

or_right : (a b : Bool) → (a || b) ≡ false → b ≡ false
or_right false b e = e
or_right true b e = cc e

or_none : (a b : Bool) → a ≡ false → b ≡ false → (a || b) ≡ false
or_none a b none = rw none (λ e. e)

false_by : (b : Bool) → (b ≡ true → ⊥) → b ≡ false
false_by true never = absurd (never refl)
false_by false never = refl

pub lacks_both : (end : ℕ) (xs ys : List ℕ) → LacksByte end xs → LacksByte end ys → LacksByte end (xs ++ ys)
lacks_both end [] ys first second = second
lacks_both end (x ∷ xs) ys first second = or_none (x == end) _ (or_left _ _ first) (lacks_both end xs ys (or_right _ _ first) second)

-- bytes without an end go to the name
pub goes_on : (end : ℕ) (name front rest : List ℕ) → LacksByte end front → names_behind end name (front ++ rest) ≡ names_behind end (name ++ front) rest
unfolding names_behind
goes_on end name [] rest lacks = rw (append-nil name) refl
goes_on end name (b ∷ front) rest lacks = rw (or_left (b == end) (list_any (λ c. c == end) front) lacks)
    (goes_on end (name ++ b ∷ []) front rest (or_right (b == end) _ lacks) ∙ ap (λ n. names_behind end n rest) (append_assoc name (b ∷ []) front))

-- a name and its end
pub takes_first : (end : ℕ) (name rest : List ℕ) → LacksByte end name → listed end (name ++ end ∷ rest) ≡ name ∷ listed end rest
unfolding names_behind
takes_first end name rest lacks = goes_on end [] name (end ∷ rest) lacks ∙ rw (eq-eqb end end refl) refl

-- a last name, without one
pub takes_last : (end : ℕ) (name : List ℕ) → LacksByte end name → listed end name ≡ last_name name
unfolding names_behind
takes_last end name lacks = ap (listed end) (sym (append-nil name)) ∙ goes_on end [] name [] lacks

suc_more : (k : ℕ) → suc k + 1 ≡ suc (k + 1)
suc_more k = omega arith

-- what stands before the first end, and behind it
pub first_splits : (end : ℕ) (bytes : List ℕ) (k : ℕ) → k < length bytes → (slice_index bytes k == end) ≡ true
    → ((i : ℕ) → i < k → (slice_index bytes i == end) ≡ true → ⊥) → LacksByte end (take k bytes) × (bytes ≡ take k bytes ++ end ∷ drop (k + 1) bytes)
first_splits end [] k within is before = absurd (omega (arith, within))
first_splits end (b ∷ bytes) zero within is before = (refl, ap (λ e. e ∷ bytes) (eqb-true b end is))
first_splits end (b ∷ bytes) (suc k) within is before =
    let more = first_splits end bytes k (omega (arith, within)) is (λ i low. before (suc i) (omega (arith, low))) in
    (or_none (b == end) _ (false_by (b == end) (before 0 (omega arith))) more.0, rw (suc_more k) (ap (λ l. b ∷ l) more.1))

-- no end at all
pub nowhere_lacks : (end : ℕ) (bytes : List ℕ) → ((i : ℕ) → i < length bytes → (slice_index bytes i == end) ≡ true → ⊥) → LacksByte end bytes
nowhere_lacks end [] never = refl
nowhere_lacks end (b ∷ bytes) never = or_none (b == end) _ (false_by (b == end) (never 0 (omega arith)))
    (nowhere_lacks end bytes (λ i low. never (suc i) (omega (arith, low))))
