-- The rows of a bracket as they are pushed: those that agree with its bytes on more and more places.
use Rattle.sig_auto.proofs.Common.{arith, ◌≡◌, ℕ, ◌+◌, ◌-◌, ◌<◌, ◌≤◌, false, nat_eq, min, List, [], ◌∷◌, ◌++◌, drop, length, map, take, slice_index, sym, ap}
use Rattle.sig_auto.proofs.Common.{◌∙◌, refl, add-one, append_assoc, leb-true, lt-ltb, append-nil, drop_all, map-append, take-append-drop, drop-cons, take-suc}
use Rattle.sig_auto.proofs.Common.{Class, Within, only, above, behind, behind_these, below, between, inner_at, only_these, rest}

drop_place : (l : List ℕ) (j : ℕ) → j < length l → drop j l ≡ slice_index l j ∷ drop (j + 1) l
drop_place l j h = drop-cons l j 0 h ∙ ap (λ k. slice_index l j ∷ drop k l) (sym (add-one j))

take_place : (l : List ℕ) (j : ℕ) → j < length l → take (j + 1) l ≡ take j l ++ slice_index l j ∷ []
take_place l j h = ap (λ k. take k l) (add-one j) ∙ take-suc l j 0 h

-- behind these bytes and one more
pub behind_more : (front : List ℕ) (x : ℕ) (rows : List (List Class)) → behind_these front (behind x rows) ≡ behind_these (front ++ x ∷ []) rows
behind_more front x [] = refl
behind_more front x (r ∷ rs) = grind (arith, behind_more front x rs, map-append, append_assoc)

-- behind no bytes
pub behind_none : (rows : List (List Class)) → behind_these [] rows ≡ rows
behind_none [] = refl
behind_none (r ∷ rs) = ap (λ t. r ∷ t) (behind_none rs)

-- the row of a place whose byte is lowered, or raised
abbrev pub row_at : List ℕ → ℕ → Class → List Class
row_at bytes j c = only_these (take j bytes) ++ c ∷ rest (drop (j + 1) bytes)

-- a turn of the loop that pushes the rows below
pub below_passed : (bytes : List ℕ) (j : ℕ) → j < length bytes → slice_index bytes j ≡ 0
    → behind_these (take j bytes) (below (drop j bytes)) ≡ behind_these (take (j + 1) bytes) (below (drop (j + 1) bytes))
below_passed bytes j h zero = grind (arith, drop_place, map-append, behind_more, take_place)

pub below_pushed : (bytes : List ℕ) (j : ℕ) → j < length bytes → 0 < slice_index bytes j
    → behind_these (take j bytes) (below (drop j bytes)) ≡ row_at bytes j (Within 0 (slice_index bytes j - 1)) ∷ behind_these (take (j + 1) bytes)
    (below (drop (j + 1) bytes))
below_pushed bytes j h some = grind (arith, lt-ltb, drop_place, map-append, behind_more, take_place)

-- a turn of the loop that pushes the rows above
pub above_passed : (bytes : List ℕ) (j i : ℕ) → i ≡ j + 1 → j < length bytes → slice_index bytes j ≡ 255
    → behind_these (take i bytes) (above (drop i bytes)) ≡ behind_these (take j bytes) (above (drop j bytes))
above_passed bytes j i is h most = grind (arith, append-nil, drop_place, map-append, behind_more, take_place)

pub above_pushed : (bytes : List ℕ) (j i : ℕ) → i ≡ j + 1 → j < length bytes → slice_index bytes j < 255
    → behind_these (take i bytes) (above (drop i bytes)) ++ row_at bytes j (Within (slice_index bytes j + 1) 255) ∷ [] ≡ behind_these (take j bytes)
    (above (drop j bytes))
above_pushed bytes j i is h less = grind (arith, lt-ltb, drop_place, map-append, behind_more, take_place)

-- a turn of a loop that pushes a row, from the first and from the last
pub pushed_below : {A : Type 0} (rows0 rows1 : List A) (row : A) (more0 more1 all : List A) → rows1 ≡ rows0 ++ row ∷ [] → more0 ≡ row ∷ more1
    → rows0 ++ more0 ≡ all → rows1 ++ more1 ≡ all
pushed_below rows0 rows1 row more0 more1 all pushed is h = ap (λ r. r ++ more1) pushed ∙ append_assoc rows0 (row ∷ []) more1 ∙ ap (λ r. rows0 ++ r) (sym is) ∙ h

pub pushed_above : {A : Type 0} (rows0 rows1 : List A) (row : A) (old more0 more1 : List A) → rows1 ≡ rows0 ++ row ∷ [] → more0 ++ row ∷ [] ≡ more1
    → rows0 ≡ old ++ more0 → rows1 ≡ old ++ more1
pushed_above rows0 rows1 row old more0 more1 pushed is h = pushed ∙ ap (λ r. r ++ row ∷ []) h ∙ append_assoc old more0 (row ∷ []) ∙ ap (λ r. old ++ r) is

between-nil : (xs : List ℕ) → between xs [] ≡ []
between-nil [] = refl
between-nil (x ∷ xs) = refl

-- behind the end of one of two words there is no row
pub between_ended : (a b : List ℕ) (j : ℕ) → min (length a) (length b) ≤ j → behind_these (take j a) (between (drop j a) (drop j b)) ≡ []
between_ended a b j h = grind (arith, drop_all, leb-true, between-nil (drop j a))

-- a list that grows at its end
pub pushed_row : {A B : Type 0} (f : A → B) (olds news : List A) (row : A) (is : B) → news ≡ olds ++ row ∷ [] → f row ≡ is → map f news ≡ map f olds ++ is ∷ []
pushed_row f olds news row is h e = ap (map f) h ∙ map-append f olds (row ∷ []) ∙ ap (λ r. map f olds ++ r ∷ []) e

-- the rows outside two words
pub outside_is : (olds mids news : List (List Class)) (a b : List ℕ) → olds ≡ [] → mids ≡ olds ++ behind_these [] (below a)
    → news ≡ mids ++ behind_these [] (above b) → news ≡ below a ++ above b
outside_is olds mids news a b none first second = grind (arith, behind_none (below a), behind_none (above b))

-- two words agree on one more place
pub agree_more : (a b : List ℕ) (j : ℕ) → j < length a → j < length b → take j a ≡ take j b → slice_index a j ≡ slice_index b j
    → take (j + 1) a ≡ take (j + 1) b
agree_more a b j in_a in_b agreed same = take_place a j in_a ∙ ap (λ r. r ++ slice_index a j ∷ []) agreed ∙ ap (λ x. take j b ++ x ∷ []) same ∙ sym
    (take_place b j in_b)

pub between_passed : (a b : List ℕ) (j : ℕ) → j < length a → j < length b → slice_index a j ≡ slice_index b j
    → behind_these (take j a) (between (drop j a) (drop j b)) ≡ behind_these (take (j + 1) a) (between (drop (j + 1) a) (drop (j + 1) b))
between_passed a b j in_a in_b same = grind (arith, drop_place a j in_a, drop_place b j in_b, behind_more (take j a), take_place a j in_a)

whole_row : (a : List ℕ) (j : ℕ) → j < length a → only_these (take j a) ++ only_these (slice_index a j ∷ drop (j + 1) a) ≡ only_these a
whole_row a j h = sym (map-append only (take j a) (slice_index a j ∷ drop (j + 1) a)) ∙ ap (λ r. only_these (take j a ++ r)) (sym (drop_place a j h)) ∙ ap
    only_these (take-append-drop j a)

-- behind these bytes, the rows of two words that differ at the next
pub between_differs : (a b : List ℕ) (j : ℕ) → j < length a → j < length b → take j a ≡ take j b → nat_eq (slice_index a j) (slice_index b j) ≡ false →
    behind_these (take j a) (between (drop j a) (drop j b)) ≡ only_these a
    ∷ (behind_these (take (j + 1) a) (above (drop (j + 1) a)) ++ (behind_these (take j a) (inner_at (slice_index a j) (slice_index b j) (drop (j + 1) a))
    ++ (behind_these (take (j + 1) b) (below (drop (j + 1) b)) ++ only_these b ∷ [])))
between_differs a b j in_a in_b agreed differ = grind (arith, whole_row, behind_more, take_place, drop_place, map-append)

-- five growths, one after the other
pub range_is : {A : Type 0} (x y : A) (above inner below r0 r1 r2 r3 r4 r5 : List A) → r0 ≡ [] → r1 ≡ r0 ++ x ∷ [] → r2 ≡ r1 ++ above → r3 ≡ r2 ++ inner
    → r4 ≡ r3 ++ below → r5 ≡ r4 ++ y ∷ [] → r5 ≡ x ∷ (above ++ (inner ++ (below ++ y ∷ [])))
range_is x y above inner below r0 r1 r2 r3 r4 r5 h0 h1 h2 h3 h4 h5 = grind (arith, append_assoc)
