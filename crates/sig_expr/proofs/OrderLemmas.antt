-- Whether some word is outside a range.
use Rattle.std.proofs.Common.{◌≡◌, ℕ, ◌<◌, true, false, nat_eq, List, [], ◌∷◌, length, refl, sym, ◌∙◌, inl, inr, rules, arith}
use Rattle.std.specs.Prelude.{◌&&◌}
use Rattle.std.proofs.lemmas.Bool.{cases_Bool}
use Rattle.std.proofs.lemmas.List.Elements.{All-nil, All-cons, All-head, All-tail}
use Rattle.sig_bits.specs.Bytes.{IsBytes}
use Rattle.sig_expr.proofs.BeforeLemmas.{IsBefore-cases, IsBefore-lower, IsBefore-same}
use Rattle.sig_expr.specs.Faults.{are_all}
use Rattle.sig_expr.specs.Profile.{LeavesWord}
use Rattle.sig_expr.specs.Words.{IsBefore, IsBytesOf}

same_number : (n k : ℕ) → nat_eq n k ≡ true → n ≡ k
same_number n k e = search rules

abbrev IsByte : ℕ → Type 0
IsByte b = b < 256

-- a word of this length
zeros : (a : List ℕ) → (w : List ℕ) × IsBytesOf (length a) w
zeros [] = ([], (refl, All-nil IsByte))
zeros (x ∷ a) = let w = zeros a in (0 ∷ w.0, (omega (arith, w.1.0), All-cons IsByte 0 w.0 (omega arith) w.1.1))

-- where a byte can be lowered, some word is before
some_before : (a : List ℕ) → are_all 0 a ≡ false → (w : List ℕ) × IsBytesOf (length a) w × IsBefore w a
unfolding are_all
some_before [] h = absurd (cc)
some_before (x ∷ a) h = elim (cases_Bool (nat_eq x 0)) [
  | inl same ↦
      let w = some_before a (rw same at h) in
      (0 ∷ w.0, (omega (arith, w.1.0), All-cons IsByte 0 w.0 (omega arith) w.1.1), IsBefore-same 0 x w.0 a (sym (same_number x 0 same)) w.2)
  | inr differs ↦
      let w = zeros a in
      let low : 0 < x = above_zero x differs in
      (0 ∷ w.0, (omega (arith, w.1.0), All-cons IsByte 0 w.0 (omega arith) w.1.1), IsBefore-lower 0 x w.0 a low)
]
  where
    above_zero : (x : ℕ) → nat_eq x 0 ≡ false → 0 < x
    above_zero x e = grind arith

-- where a byte can be raised, some word is behind
some_behind : (b : List ℕ) → IsBytes b → are_all 255 b ≡ false → (w : List ℕ) × IsBytesOf (length b) w × IsBefore b w
unfolding are_all
some_behind [] bytes h = absurd (cc)
some_behind (x ∷ b) bytes h = elim (cases_Bool (nat_eq x 255)) [
  | inl same ↦
      let w = some_behind b (All-tail IsByte x b bytes) (rw same at h) in
      (255 ∷ w.0, (omega (arith, w.1.0), All-cons IsByte 255 w.0 (omega arith) w.1.1), IsBefore-same x 255 b w.0 (same_number x 255 same) w.2)
  | inr differs ↦
      let w = zeros b in
      let high : x < 255 = below_most x (All-head IsByte x b bytes) differs in
      (255 ∷ w.0, (omega (arith, w.1.0), All-cons IsByte 255 w.0 (omega arith) w.1.1), IsBefore-lower x 255 b w.0 high)
]
  where
    below_most : (x : ℕ) → x < 256 → nat_eq x 255 ≡ false → x < 255
    below_most x h e = grind arith

-- no word is before zeros, and none is behind bytes of 255
none_before : (a w : List ℕ) → length w ≡ length a → are_all 0 a ≡ true → IsBefore w a → ⊥
unfolding are_all
none_before [] [] len all h = absurd (cc)
none_before [] (y ∷ w) len all h = omega arith
none_before (x ∷ a) [] len all h = omega arith
none_before (x ∷ a) (y ∷ w) len all h = elim (cases_Bool (nat_eq x 0)) [
  | inl same ↦
      let zero = same_number x 0 same in
      elim (IsBefore-cases y x w a h) [ inl lower ↦ omega arith | inr level ↦ none_before a w (omega arith) (rw same at all) level.1 ]
  | inr differs ↦ absurd (cc (rw differs at all))
]

none_behind : (b w : List ℕ) → IsBytes w → length w ≡ length b → are_all 255 b ≡ true → IsBefore b w → ⊥
unfolding are_all
none_behind [] [] bytes len all h = absurd (cc)
none_behind [] (y ∷ w) bytes len all h = omega arith
none_behind (x ∷ b) [] bytes len all h = omega arith
none_behind (x ∷ b) (y ∷ w) bytes len all h = elim (cases_Bool (nat_eq x 255)) [
  | inl same ↦
      let most = same_number x 255 same in
      let byte = All-head IsByte y w bytes in
      elim (IsBefore-cases x y b w h) [
        | inl lower ↦ omega arith
        | inr level ↦
            none_behind b w (All-tail IsByte y w bytes) (omega arith) (rw same at all) level.1
      ]
  | inr differs ↦ absurd (cc (rw differs at all))
]

-- unless the ends are all bytes there are, some word is outside the range
pub leaves_word : (a b : List ℕ) → length a ≡ length b → IsBytes b → (are_all 0 a && are_all 255 b) ≡ false → LeavesWord a b
leaves_word a b same bytes h = elim (cases_Bool (are_all 0 a)) [
  | inl low ↦ let w = some_behind b bytes (rw low at h) in (w.0, (rw same w.1, inr w.2))
  | inr high ↦ let w = some_before a high in (w.0, (w.1, inl w.2))
]

-- where some word is outside the range, its ends are not all bytes there are
pub leaves_no_all : (a b : List ℕ) → length a ≡ length b → LeavesWord a b → (are_all 0 a && are_all 255 b) ≡ false
leaves_no_all a b same h = elim (cases_Bool (are_all 0 a)) [
  | inr high ↦ rw high refl
  | inl low ↦ elim (cases_Bool (are_all 255 b)) [
    | inr differs ↦ rw (low, differs) refl
    | inl most ↦ absurd (elim h.1.1 [ inl before ↦ none_before a h.0 h.1.0.0 low before | inr behind ↦ none_behind b h.0 h.1.0.1 (h.1.0.0 ∙ same) most behind ])
  ]
]

-- where the ends are all bytes there are, no word is outside the range, and the other way round
pub no_word : (a b : List ℕ) → length a ≡ length b → are_all 0 a ≡ true → are_all 255 b ≡ true → LeavesWord a b → ⊥
no_word a b same low high w = let never = rw (low, high) at (leaves_no_all a b same w) in cc

pub no_word_all : (a b : List ℕ) → length a ≡ length b → IsBytes b → (LeavesWord a b → ⊥) → (are_all 0 a && are_all 255 b) ≡ true
no_word_all a b same bytes none = elim (cases_Bool (are_all 0 a && are_all 255 b)) [
  | inl all ↦ all
  | inr some ↦ absurd (none (leaves_word a b same bytes some))
]
