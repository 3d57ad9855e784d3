-- Numbers that are joined one after the other.
use Rattle.std.proofs.Common.{◌≡◌, ◌≢◌, ◌↔◌, ⊎_elim, ℕ, ◌+◌, ◌≤◌, Bool, true, false, not, eqb, eqb-true, IsTrue, refl, arith, bit_or}
use Rattle.std.specs.Int.Bits.{or_zero_l}
use Rattle.std.proofs.lemmas.Nat.{le_or_l, le_or_r}
use Rattle.std.proofs.lemmas.Bool.{cases_eq, cases_lt, eqb-false, false≢true}
use Rattle.sig_bits.specs.Joined.{IsJoined}

-- nothing is joined yet
pub joined_none : (f : ℕ → ℕ) (from : ℕ) → IsJoined f from from 0
joined_none f from = record { none = λ _ k low high. absurd (omega arith); some = λ ne. absurd (ne refl) }

-- one number more
pub joined_more : (f : ℕ → ℕ) (from to joined : ℕ) → from ≤ to → IsJoined f from to joined → IsJoined f from (to + 1) (bit_or joined (f to))
joined_more f from to joined order h = record {
  none = λ zeros k low high.
      let left : joined ≤ 0 = omega (arith, le_or_l joined (f to)) in
      let right : f to ≤ 0 = omega (arith, le_or_r joined (f to)) in
      ⊎_elim (λ (same : k ≡ to). rw same (omega arith)) (λ other. h.none (omega arith) k low (omega arith)) (cases_eq k to);
  some = λ ne. ⊎_elim
      (λ (none : joined ≡ 0). (to, (order, omega arith, λ zero_there. ne (rw (none, or_zero_l) zero_there))))
      (λ some. let found = h.some some in (found.0, (found.1.0, omega arith, found.1.2)))
      (cases_eq joined 0);
}

-- what comes after zeros alone
pub joined_on : (f : ℕ → ℕ) (from between to joined : ℕ) → from ≤ between → between ≤ to → IsJoined f from between 0 → IsJoined f between to joined
    → IsJoined f from to joined
joined_on f from between to joined low high zeros later = record {
  none = λ none k more less. ⊎_elim (λ before. zeros.none refl k more before) (λ behind. later.none none k behind less) (cases_lt k between);
  some = λ ne. let found = later.some ne in (found.0, (omega arith, found.1.1, found.1.2));
}

-- the test whether what came out is 0
pub is_zero : (n : ℕ) (P : Type 0) → (n ≡ 0 → P) → (n ≢ 0 → P → ⊥) → IsTrue (eqb n 0) ↔ P
is_zero n P zero some = by_test (eqb n 0) refl
  where
    by_test : (t : Bool) → eqb n 0 ≡ t → IsTrue t ↔ P
    by_test true e = (λ _. zero (eqb-true n 0 e), λ _. refl)
    by_test false e = (λ t. absurd (false≢true t), λ p. absurd (some (eqb-false n 0 e) p))

pub is_not_zero : (n : ℕ) (P : Type 0) → (n ≡ 0 → P → ⊥) → (n ≢ 0 → P) → IsTrue (not (eqb n 0)) ↔ P
is_not_zero n P zero some = by_test (eqb n 0) refl
  where
    by_test : (t : Bool) → eqb n 0 ≡ t → IsTrue (not t) ↔ P
    by_test true e = (λ t. absurd (false≢true t), λ p. absurd (zero (eqb-true n 0 e) p))
    by_test false e = (λ _. some (eqb-false n 0 e), λ _. refl)
