-- Which word is before another, and which is up to another.
use Rattle.std.proofs.Common.{◌≡◌, ◌≢◌, ◌⊎◌, ℕ, ◌<◌, ◌≤◌, List, [], ◌∷◌, refl, sym, subst, ◌∙◌, inl, inr, nat_cmp, Less, Equal, Greater}
use Rattle.std.specs.Cmp.{nat_cmp_is}
use Rattle.std.specs.Cmp.Lexicographic.{slice_cmp}
use Rattle.std.proofs.lemmas.Bool.{cases_lt, cases_order}
use Rattle.sig_expr.specs.Words.{IsBefore, IsUpTo}

-- words by their first bytes
cmp_lower : (x y : ℕ) (xs ys : List ℕ) → x < y → slice_cmp nat_cmp (x ∷ xs) (y ∷ ys) ≡ Less
cmp_lower x y xs ys h = rw (← nat_cmp_is x y Less h) refl

cmp_same : (x y : ℕ) (xs ys : List ℕ) → x ≡ y → slice_cmp nat_cmp (x ∷ xs) (y ∷ ys) ≡ slice_cmp nat_cmp xs ys
cmp_same x y xs ys h = rw (← nat_cmp_is x y Equal h) refl

cmp_upper : (x y : ℕ) (xs ys : List ℕ) → y < x → slice_cmp nat_cmp (x ∷ xs) (y ∷ ys) ≡ Greater
cmp_upper x y xs ys h = rw (← nat_cmp_is x y Greater h) refl

pub IsBefore-lower : (x y : ℕ) (xs ys : List ℕ) → x < y → IsBefore (x ∷ xs) (y ∷ ys)
IsBefore-lower x y xs ys h = cmp_lower x y xs ys h

pub IsBefore-same : (x y : ℕ) (xs ys : List ℕ) → x ≡ y → IsBefore xs ys → IsBefore (x ∷ xs) (y ∷ ys)
IsBefore-same x y xs ys h k = cmp_same x y xs ys h ∙ k

pub IsBefore-cases : (x y : ℕ) (xs ys : List ℕ) → IsBefore (x ∷ xs) (y ∷ ys) → (x < y) ⊎ ((x ≡ y) × IsBefore xs ys)
IsBefore-cases x y xs ys h = elim (cases_order x y) [
  | inl same ↦ inr (same, sym (cmp_same x y xs ys same) ∙ h)
  | inr differ ↦ elim differ [ inl lower ↦ inl lower | inr upper ↦ absurd (cc (cmp_upper x y xs ys upper, h)) ]
]

-- up to a word: before it, or the word itself
pub IsUpTo-before : (v w : List ℕ) → IsBefore v w → IsUpTo v w
IsUpTo-before v w h = λ e. cc

cmp_itself : (w : List ℕ) → slice_cmp nat_cmp w w ≡ Equal
cmp_itself [] = refl
cmp_itself (b ∷ w) = cmp_same b b w w refl ∙ cmp_itself w

pub IsUpTo-itself : (w : List ℕ) → IsUpTo w w
IsUpTo-itself w = λ e. cc (cmp_itself w, e)

pub IsUpTo-same : (v w : List ℕ) → v ≡ w → IsUpTo v w
IsUpTo-same v w h = subst (IsUpTo v) h (IsUpTo-itself v)

pub IsUpTo-first : (x y : ℕ) (xs ys : List ℕ) → IsUpTo (x ∷ xs) (y ∷ ys) → x ≤ y
IsUpTo-first x y xs ys h = elim (cases_lt y x) [ inl upper ↦ absurd (h (cmp_upper x y xs ys upper)) | inr up_to ↦ up_to ]

-- behind the same byte as the rest is
pub IsUpTo-behind : (x y : ℕ) (xs ys : List ℕ) → x ≡ y → IsUpTo xs ys → IsUpTo (x ∷ xs) (y ∷ ys)
IsUpTo-behind x y xs ys same h = λ e. h (sym (cmp_same x y xs ys same) ∙ e)

pub IsUpTo-rest : (x y : ℕ) (xs ys : List ℕ) → x ≡ y → IsUpTo (x ∷ xs) (y ∷ ys) → IsUpTo xs ys
IsUpTo-rest x y xs ys same h = λ e. h (cmp_same x y xs ys same ∙ e)

pub IsUpTo-cases : (v w : List ℕ) → IsUpTo v w → IsBefore v w ⊎ (v ≡ w)
IsUpTo-cases [] [] h = inr refl
IsUpTo-cases [] (y ∷ w) h = inl refl
IsUpTo-cases (x ∷ v) [] h = absurd (h refl)
IsUpTo-cases (x ∷ v) (y ∷ w) h = elim (cases_order x y) [
  | inl same ↦ elim (IsUpTo-cases v w (IsUpTo-rest x y v w same h)) [
    | inl before ↦ inl (IsBefore-same x y v w same before)
    | inr equal ↦ inr (cc)
  ]
  | inr differ ↦ elim differ [ inl lower ↦ inl (IsBefore-lower x y v w lower) | inr upper ↦ absurd (h (cmp_upper x y v w upper)) ]
]

-- words that are not the same are in one order or the other
pub IsBefore-either : (v w : List ℕ) → v ≢ w → IsBefore v w ⊎ IsBefore w v
IsBefore-either [] [] h = absurd (h refl)
IsBefore-either [] (y ∷ w) h = inl refl
IsBefore-either (x ∷ v) [] h = inr refl
IsBefore-either (x ∷ v) (y ∷ w) h = elim (cases_order x y) [
  | inl same ↦ elim (IsBefore-either v w (λ e. h (cc))) [
    | inl before ↦ inl (IsBefore-same x y v w same before)
    | inr after ↦ inr (IsBefore-same y x w v (sym same) after)
  ]
  | inr differ ↦ elim differ [ inl lower ↦ inl (IsBefore-lower x y v w lower) | inr upper ↦ inr (IsBefore-lower y x w v upper) ]
]

-- no word is before itself
pub not_before_itself : (v w : List ℕ) → IsBefore v w → v ≢ w
not_before_itself v w h = λ e. (let same : slice_cmp nat_cmp v v ≡ Less = rw (← e) at h in cc (cmp_itself v, same))
