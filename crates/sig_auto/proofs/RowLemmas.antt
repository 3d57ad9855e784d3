-- The words of the rows of a bracket: those before an end, after an end, and from one end to another.
use Rattle.sig_auto.proofs.Common.{◌≡◌, ◌⊎◌, ◌↔◌, ℕ, ◌+◌, ◌-◌, ◌<◌, ◌≤◌, Bool, true, false, nat_lt, nat_eq, cond, List, [], ◌∷◌, ◌++◌, length, refl, inl, inr}
use Rattle.sig_auto.proofs.Common.{arith, eq-eqb, lt-ltb, ne_eqb, Class, Within, InClass, any, only, above, behind, below, between, inner_at, lower_at}
use Rattle.sig_auto.proofs.Common.{only_these, rest, upper_at, row_tree, rows_tree, TreeWord, IsBytes, IsBefore-cases, IsBefore-lower, IsBefore-same}
use Rattle.sig_auto.proofs.Common.{IsUpTo-before, IsUpTo-behind, IsUpTo-cases, IsUpTo-first, IsUpTo-itself, IsUpTo-rest, IsBefore, IsBytesOf, IsUpTo}
use Rattle.sig_auto.proofs.ByteLemmas.{IsBytes-nil, IsBytes-cons, IsBytes-head, IsBytes-tail}

-- a word of a row: a byte of its first class, and a word of the others
row_word : (c : Class) (cs : List Class) (b : ℕ) (v : List ℕ) → InClass c b → TreeWord (row_tree cs) v → TreeWord (row_tree (c ∷ cs)) (b ∷ v)
row_word c cs b v h k = (b ∷ [], v, refl, (b, refl, h), k)

-- any bytes, as many as these
rest_word : (xs w : List ℕ) → IsBytesOf (length xs) w → TreeWord (row_tree (rest xs)) w
rest_word [] [] h = refl
rest_word [] (b ∷ w) h = let len = h.0 in absurd (omega arith)
rest_word (x ∷ xs) [] h = let len = h.0 in absurd (omega arith)
rest_word (x ∷ xs) (b ∷ w) h = grind (arith, IsBytes-head b w h.1, row_word any (rest xs) b w, IsBytes-tail b w h.1, rest_word xs w)

of_rest : (xs w : List ℕ) → TreeWord (row_tree (rest xs)) w → IsBytesOf (length xs) w
of_rest [] w h = rw h (refl, IsBytes-nil)
of_rest (x ∷ xs) w h = grind (arith, IsBytes-cons, of_rest xs)

-- these bytes alone
only_word : (xs : List ℕ) → TreeWord (row_tree (only_these xs)) xs
only_word [] = refl
only_word (x ∷ xs) = row_word (only x) (only_these xs) x xs (omega arith, omega arith) (only_word xs)

of_only : (xs w : List ℕ) → TreeWord (row_tree (only_these xs)) w → w ≡ xs
of_only [] w h = h
of_only (x ∷ xs) w h = grind (arith, of_only xs)

-- the words of rows are those of the one rows and of the other
rows_left : (rs ss : List (List Class)) (w : List ℕ) → TreeWord (rows_tree rs) w → TreeWord (rows_tree (rs ++ ss)) w
rows_left [] ss w h = absurd h
rows_left (r ∷ rs) ss w (inl h) = inl h
rows_left (r ∷ rs) ss w (inr h) = inr (rows_left rs ss w h)

rows_right : (rs ss : List (List Class)) (w : List ℕ) → TreeWord (rows_tree ss) w → TreeWord (rows_tree (rs ++ ss)) w
rows_right [] ss w h = h
rows_right (r ∷ rs) ss w h = inr (rows_right rs ss w h)

of_rows : (rs ss : List (List Class)) (w : List ℕ) → TreeWord (rows_tree (rs ++ ss)) w → TreeWord (rows_tree rs) w ⊎ TreeWord (rows_tree ss) w
of_rows [] ss w h = inr h
of_rows (r ∷ rs) ss w (inl h) = inl (inl h)
of_rows (r ∷ rs) ss w (inr h) = elim (of_rows rs ss w h) [ inl one ↦ inl (inr one) | inr other ↦ inr other ]

pub rows_append : (rs ss : List (List Class)) (w : List ℕ) → TreeWord (rows_tree (rs ++ ss)) w ↔ (TreeWord (rows_tree rs) w ⊎ TreeWord (rows_tree ss) w)
rows_append rs ss w = (λ h. of_rows rs ss w h, λ h. elim h [ inl one ↦ rows_left rs ss w one | inr other ↦ rows_right rs ss w other ])

-- rows behind a byte
behind_word : (b : ℕ) (rs : List (List Class)) (v : List ℕ) → TreeWord (rows_tree rs) v → TreeWord (rows_tree (behind b rs)) (b ∷ v)
behind_word b [] v h = absurd h
behind_word b (r ∷ rs) v (inl h) = inl (row_word (only b) r b v (omega arith, omega arith) h)
behind_word b (r ∷ rs) v (inr h) = inr (behind_word b rs v h)

of_behind : (b : ℕ) (rs : List (List Class)) (w : List ℕ) → TreeWord (rows_tree (behind b rs)) w → (v : List ℕ) × (w ≡ b ∷ v) × TreeWord (rows_tree rs) v
of_behind b [] w h = absurd h
of_behind b (r ∷ rs) w (inl h) = grind arith
of_behind b (r ∷ rs) w (inr h) = let k = of_behind b rs w h in (k.0, k.1, inr k.2)

-- a byte between two and others: the words of a row that is there where some byte is between them
first_word : (t : Bool) (low high b : ℕ) (xs v : List ℕ) → t ≡ true → low ≤ b → b ≤ high → IsBytesOf (length xs) v
    → TreeWord (rows_tree (cond t ((Within low high ∷ rest xs) ∷ []) [])) (b ∷ v)
first_word true low high b xs v e h k bytes = inl (row_word (Within low high) (rest xs) b v (h, k) (rest_word xs v bytes))
first_word false low high b xs v e h k bytes = absurd (cc)

inner_word : (x y b : ℕ) (xs v : List ℕ) → x < b → b < y → IsBytesOf (length xs) v → TreeWord (rows_tree (inner_at x y xs)) (b ∷ v)
inner_word x y b xs v h k bytes = first_word (nat_lt (x + 1) y) (x + 1) (y - 1) b xs v (lt-ltb (x + 1) y (omega arith)) (omega arith) (omega arith) bytes

of_inner : (x y : ℕ) (xs w : List ℕ) → TreeWord (rows_tree (inner_at x y xs)) w → (b : ℕ) × (v : List ℕ) × (w ≡ b ∷ v) × (x < b) × (b < y)
    × IsBytesOf (length xs) v
of_inner x y xs w h = grind (arith, rest, of_rest)

-- one more byte
longer : (b x : ℕ) (v xs : List ℕ) → b < 256 → IsBytesOf (length xs) v → IsBytesOf (length (x ∷ xs)) (b ∷ v)
longer b x v xs h k = let len = k.0 in (omega arith, IsBytes-cons b v h k.1)

shorter : (b x : ℕ) (v xs : List ℕ) → IsBytesOf (length (x ∷ xs)) (b ∷ v) → IsBytesOf (length xs) v
shorter b x v xs h = let len = h.0 in (omega arith, IsBytes-tail b v h.1)

of_below : (xs w : List ℕ) → IsBytes xs → TreeWord (rows_tree (below xs)) w → IsBytesOf (length xs) w × IsBefore w xs
of_below [] w bytes h = absurd h
of_below (x ∷ xs) w bytes h =
    grind (
      arith,
      IsBytes-head x xs bytes,
      of_rows (lower_at x xs) (behind x (below xs)) w h,
      longer x x,
      IsBefore-lower,
      of_behind x (below xs) w,
      IsBytes-tail x xs bytes,
      IsBefore-same x x,
      of_below xs,
      rest,
      of_rest,
    )

below_word : (xs w : List ℕ) → IsBytesOf (length xs) w → IsBefore w xs → TreeWord (rows_tree (below xs)) w
below_word [] [] bytes h = absurd (cc)
below_word [] (b ∷ w) bytes h = absurd (cc)
below_word (x ∷ xs) [] bytes h = let len = bytes.0 in absurd (omega arith)
below_word (x ∷ xs) (b ∷ w) bytes h =
    grind (
      arith,
      IsBefore-cases b x w xs h,
      rows_left (lower_at x xs) (behind x (below xs)) (b ∷ w),
      shorter b x w xs bytes,
      rows_right (lower_at x xs) (behind x (below xs)) (b ∷ w),
      behind_word x (below xs) w,
      below_word xs w (shorter b x w xs bytes),
      first_word,
      lt-ltb,
    )

of_above : (xs w : List ℕ) → IsBytes xs → TreeWord (rows_tree (above xs)) w → IsBytesOf (length xs) w × IsBefore xs w
of_above [] w bytes h = absurd h
of_above (x ∷ xs) w bytes h =
    grind (
      arith,
      of_rows (behind x (above xs)) (upper_at x xs) w h,
      of_behind x (above xs) w,
      IsBytes-tail x xs bytes,
      longer x x,
      IsBytes-head x xs bytes,
      IsBefore-same x x xs,
      IsBefore-lower x,
      of_above xs,
      rest,
      of_rest,
    )

above_word : (xs w : List ℕ) → IsBytesOf (length xs) w → IsBefore xs w → TreeWord (rows_tree (above xs)) w
above_word [] [] bytes h = absurd (cc)
above_word [] (b ∷ w) bytes h = let len = bytes.0 in absurd (omega arith)
above_word (x ∷ xs) [] bytes h = absurd (cc)
above_word (x ∷ xs) (b ∷ w) bytes h =
    grind (
      arith,
      IsBefore-cases x b xs w h,
      rows_right (behind x (above xs)) (upper_at x xs) (b ∷ w),
      IsBytes-head b w bytes.1,
      shorter b x w xs bytes,
      rows_left (behind x (above xs)) (upper_at x xs) (b ∷ w),
      behind_word x (above xs) w,
      above_word xs w (shorter b x w xs bytes),
      first_word,
      lt-ltb,
    )

-- the words before these bytes
pub below_is : (xs w : List ℕ) → IsBytes xs → TreeWord (rows_tree (below xs)) w ↔ (IsBytesOf (length xs) w × IsBefore w xs)
below_is xs w bytes = (λ h. of_below xs w bytes h, λ h. below_word xs w h.0 h.1)

-- the words after them
pub above_is : (xs w : List ℕ) → IsBytes xs → TreeWord (rows_tree (above xs)) w ↔ (IsBytesOf (length xs) w × IsBefore xs w)
above_is xs w bytes = (λ h. of_above xs w bytes h, λ h. above_word xs w h.0 h.1)

-- the ends differ at the first place: both of them, what is behind their first bytes, and the words whose first byte is between
abbrev pub split_rows : ℕ → ℕ → List ℕ → List ℕ → List (List Class)
split_rows x y xs ys = only_these (x ∷ xs) ∷ (behind x (above xs) ++ (inner_at x y xs ++ (behind y (below ys) ++ only_these (y ∷ ys) ∷ [])))

of_split : (x y : ℕ) (xs ys w : List ℕ) → x < y → length xs ≡ length ys → IsBytes (x ∷ xs) → IsBytes (y ∷ ys) → TreeWord (rows_tree (split_rows x y xs ys)) w
    → IsBytesOf (length (x ∷ xs)) w × IsUpTo (x ∷ xs) w × IsUpTo w (y ∷ ys)
of_split x y xs ys w order same a b (inl h) = rw (of_only (x ∷ xs) w h)
    ((refl, a), IsUpTo-itself (x ∷ xs), IsUpTo-before (x ∷ xs) (y ∷ ys) (IsBefore-lower x y xs ys order))
of_split x y xs ys w order same a b (inr h) =
    let high = IsBytes-head y ys b in
    elim (of_rows (behind x (above xs)) (inner_at x y xs ++ (behind y (below ys) ++ only_these (y ∷ ys) ∷ [])) w h) [
      | inl first ↦
          let r = of_behind x (above xs) w first in
          let k = of_above xs r.0 (IsBytes-tail x xs a) r.2 in
          rw r.1 (
            longer x x r.0 xs (IsBytes-head x xs a) k.0,
            IsUpTo-before (x ∷ xs) (x ∷ r.0) (IsBefore-same x x xs r.0 refl k.1),
            IsUpTo-before (x ∷ r.0) (y ∷ ys) (IsBefore-lower x y r.0 ys order),
          )
      | inr others ↦ elim (of_rows (inner_at x y xs) (behind y (below ys) ++ only_these (y ∷ ys) ∷ []) w others) [
        | inl inner ↦ grind (arith, of_inner, longer, IsUpTo-before, IsBefore-lower)
        | inr rest ↦ elim (of_rows (behind y (below ys)) (only_these (y ∷ ys) ∷ []) w rest) [
          | inl last ↦
              let r = of_behind y (below ys) w last in
              let k = of_below ys r.0 (IsBytes-tail y ys b) r.2 in
              rw r.1 (
                longer y x r.0 xs high (rw same k.0),
                IsUpTo-before (x ∷ xs) (y ∷ r.0) (IsBefore-lower x y xs r.0 order),
                IsUpTo-before (y ∷ r.0) (y ∷ ys) (IsBefore-same y y r.0 ys refl k.1),
              )
          | inr end ↦ elim end [
            | inl is_end ↦
                rw (of_only (y ∷ ys) w is_end) ((omega arith, b), IsUpTo-before (x ∷ xs) (y ∷ ys) (IsBefore-lower x y xs ys order), IsUpTo-itself (y ∷ ys))
            | inr none ↦ absurd none
          ]
        ]
      ]
    ]

split_word : (x y b : ℕ) (xs ys v : List ℕ) → length xs ≡ length ys → IsBytesOf (length (x ∷ xs)) (b ∷ v) → IsUpTo (x ∷ xs) (b ∷ v) → IsUpTo (b ∷ v) (y ∷ ys)
    → TreeWord (rows_tree (split_rows x y xs ys)) (b ∷ v)
split_word x y b xs ys v same bytes low high =
    let rest = shorter b x v xs bytes in
    elim (IsUpTo-cases (x ∷ xs) (b ∷ v) low) [
      | inr is_first ↦ inl (rw (← is_first) (only_word (x ∷ xs)))
      | inl after ↦ inr (elim (IsBefore-cases x b xs v after) [
        | inr on_first ↦ rows_left (behind x (above xs)) _ (b ∷ v) (rw (← on_first.0) (behind_word x (above xs) v (above_word xs v rest on_first.1)))
        | inl above_x ↦ rows_right (behind x (above xs)) _ (b ∷ v) (elim (IsUpTo-cases (b ∷ v) (y ∷ ys) high) [
          | inr is_last ↦ rows_right (inner_at x y xs) _ (b ∷ v) (rows_right (behind y (below ys)) _ (b ∷ v) (inl (rw is_last (only_word (y ∷ ys)))))
          | inl before ↦ grind (arith, rows_left, inner_word, rows_right, behind_word, below_word)
        ])
      ])
    ]

-- the ends agree at the first place, or differ there
pub between_same : (x y : ℕ) (xs ys : List ℕ) → x ≡ y → between (x ∷ xs) (y ∷ ys) ≡ behind x (between xs ys)
between_same x y xs ys h = rw (eq-eqb x y h) refl

pub between_split : (x y : ℕ) (xs ys : List ℕ) → x < y → between (x ∷ xs) (y ∷ ys) ≡ split_rows x y xs ys
between_split x y xs ys h = let apart : nat_eq x y ≡ false = ne_eqb x y (λ e. omega arith) in rw apart refl

of_between : (xs ys w : List ℕ) → length xs ≡ length ys → IsBefore xs ys → IsBytes xs → IsBytes ys → TreeWord (rows_tree (between xs ys)) w
    → IsBytesOf (length xs) w × IsUpTo xs w × IsUpTo w ys
of_between [] ys w same order a b h = absurd h
of_between (x ∷ xs) [] w same order a b h = absurd h
of_between (x ∷ xs) (y ∷ ys) w same order a b h =
    grind (
      arith,
      IsBefore-cases x y xs ys order,
      of_split x y xs ys w,
      between_split x y xs ys,
      of_behind x (between xs ys) w,
      between_same x y xs ys,
      IsBytes-tail x xs a,
      IsBytes-tail y ys b,
      longer x x,
      IsBytes-head x xs a,
      IsUpTo-behind x x xs,
      IsUpTo-behind x y,
      of_between xs ys,
    )

between_word : (xs ys w : List ℕ) → length xs ≡ length ys → IsBefore xs ys → IsBytesOf (length xs) w → IsUpTo xs w → IsUpTo w ys
    → TreeWord (rows_tree (between xs ys)) w
between_word [] [] w same order bytes low high = absurd (cc)
between_word [] (y ∷ ys) w same order bytes low high = absurd (omega arith)
between_word (x ∷ xs) [] w same order bytes low high = absurd (omega arith)
between_word (x ∷ xs) (y ∷ ys) [] same order bytes low high = absurd (low refl)
between_word (x ∷ xs) (y ∷ ys) (b ∷ v) same order bytes low high =
    grind (
      arith,
      IsBefore-cases x y xs ys order,
      between_split x y xs ys,
      split_word x y b xs ys v,
      between_same x y xs ys,
      behind_word x (between xs ys) v,
      shorter b x v xs bytes,
      IsUpTo-rest x b xs v,
      IsUpTo-rest b y v ys,
      IsUpTo-first x b xs v low,
      IsUpTo-first b y v ys high,
      between_word xs ys v,
    )

-- the words from the first to the second
pub between_is : (xs ys w : List ℕ) → length xs ≡ length ys → IsBefore xs ys → IsBytes xs → IsBytes ys → TreeWord (rows_tree (between xs ys)) w
    ↔ (IsBytesOf (length xs) w × IsUpTo xs w × IsUpTo w ys)
between_is xs ys w same order a b = (λ h. of_between xs ys w same order a b h, λ h. between_word xs ys w same order h.0 h.1 h.2)
