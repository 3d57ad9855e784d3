-- The ends of the counts of slots.
use Rattle.std.proofs.Common.{◌≡◌, ℕ, ◌+◌, ◌-◌, ◌<◌, ◌≤◌, ◌⊎◌, true, false, nat_lt, List, [], ◌∷◌, drop, length, min, sym, ◌∙◌, refl, inl, inr, arith, rules}
use Rattle.std.proofs.Common.{tests, Some, None}
use Rattle.std.proofs.lemmas.Bool.{cases_Bool}
use Rattle.std.proofs.lemmas.List.{drop_all}
use Rattle.sig_table.specs.Budgets.{minus}
use Rattle.sig_table.specs.Slots.{between_rows}

-- none behind the second bytes
between_rows-nil : (xs : List ℕ) → between_rows xs [] ≡ 0
between_rows-nil [] = refl
between_rows-nil (x ∷ xs) = refl

-- where the one or the other ends, no place differs
pub between_rows-end : (i : ℕ) (a b : List ℕ) → (length a ≤ i) ⊎ (length b ≤ i) → between_rows (drop i a) (drop i b) ≡ 0
between_rows-end i a b (inl h) = rw (drop_all i a h) refl
between_rows-end i a b (inr h) = rw (drop_all i b h) (between_rows-nil (drop i a))

pub shorter-end : (i m n : ℕ) → min m n ≤ i → (m ≤ i) ⊎ (n ≤ i)
shorter-end i m n h = elim (cases_Bool (nat_lt i m)) [
  | inl t ↦ inr (let lt : i < m = search (rules, tests) in omega arith)
  | inr f ↦ inl (search (rules, tests))
]

less_true : (a b : ℕ) → a < b → nat_lt a b ≡ true
less_true a b h = search (rules, tests)

less_false : (a b : ℕ) → b ≤ a → nat_lt a b ≡ false
less_false a b h = search (rules, tests)

from_true : (a b : ℕ) → nat_lt a b ≡ true → a < b
from_true a b h = search (rules, tests)

from_false : (a b : ℕ) → nat_lt a b ≡ false → b ≤ a
from_false a b h = search (rules, tests)

-- what a budget says of what is taken off it
enough : (budget n left : ℕ) → minus budget n ≡ Some left → (n ≤ budget) × (left ≡ budget - n)
enough budget n left h = elim (cases_Bool (nat_lt budget n)) [
  | inl t ↦ absurd (cc (rw t at h))
  | inr f ↦ (from_false budget n f, cc (rw f at h))
]

too_few : (budget n : ℕ) → minus budget n ≡ None → budget < n
too_few budget n h = elim (cases_Bool (nat_lt budget n)) [ inl t ↦ from_true budget n t | inr f ↦ absurd (cc (rw f at h)) ]

-- the offsets alone take too many
pub past-position : (p s : ℕ) → minus 65535 p ≡ None → 65536 ≡ min (p + s) 65536
past-position p s h = let above = too_few 65535 p h in omega arith

-- or the items take too many of what they leave
pub past-items : (p s budget : ℕ) → minus 65535 p ≡ Some budget → minus budget s ≡ None → 65536 ≡ min (p + s) 65536
past-items p s budget h k =
    let first = enough 65535 p budget h in
    let above = too_few budget s k in
    let within = first.0 in
    let is = first.1 in
    omega arith

-- or some of the budget is left
pub within-items : (p s budget left : ℕ) → minus 65535 p ≡ Some budget → minus budget s ≡ Some left → 65535 - left ≡ min (p + s) 65536
within-items p s budget left h k =
    let first = enough 65535 p budget h in
    let second = enough budget s left k in
    let within = first.0 in
    let is = first.1 in
    let more = second.0 in
    let last = second.1 in
    omega arith

pub left-within : (p budget left s : ℕ) → minus 65535 p ≡ Some budget → minus budget s ≡ Some left → left ≤ 65535
left-within p budget left s h k =
    let is = (enough 65535 p budget h).1 in
    let last = (enough budget s left k).1 in
    omega arith

-- a count that ends one past the limit tells whether it is past it
pub too_many-counted : (n counted : ℕ) → counted ≡ min n 65536 → nat_lt 65535 counted ≡ nat_lt 65535 n
too_many-counted n counted is = elim (cases_Bool (nat_lt 65535 n)) [
  | inl t ↦ let above = from_true 65535 n t in less_true 65535 counted (omega arith) ∙ sym t
  | inr f ↦ let within = from_false 65535 n f in less_false 65535 counted (omega arith) ∙ sym f
]
