-- Rows without the faulty ones, read once more under other numbers.
use Rattle.std.proofs.Common.{◌≡◌, ◌⊎◌, ℕ, ◌+◌, Bool, true, false, cond, List, [], ◌∷◌, refl, inl, inr, Result, Ok, Option, Some, None}
use Rattle.sig_table.proofs.Exports.{answered, binds}
use Rattle.sig_table.specs.declared.error.TableError.{TableError}
use Rattle.sig_table.specs.Judging.{◌>>=◌, judged, unless}
use Rattle.sig_lint.specs.Faults.{done_by, faultless}

pub there_or_not : {A : Type 0} (o : Option A) → (o ≡ None) ⊎ ((x : A) × (o ≡ Some x))
there_or_not None = inl refl
there_or_not (Some x) = inr (x, refl)

-- a record that is taken is taken under each number
pub again : {R S : Type 0} (read : ℕ → Result R TableError) (fault : ℕ → R → Option TableError) (put : R → S)
    → ((n m : ℕ) (row : R) → read n ≡ Ok row → read m ≡ Ok row) → ((n m : ℕ) (row : R) → fault n row ≡ None → fault m row ≡ None)
    → (n m : ℕ) (more : S) → read n >>= (λ row. unless (fault n row) (Ok (put row))) ≡ Ok more
    → read m >>= (λ row. unless (fault m row) (Ok (put row))) ≡ Ok more
again read fault put reads fine n m more h =
    let row = binds (read n) (λ row. unless (fault n row) (Ok (put row))) more h in
    elim (there_or_not (fault n row.0)) [
      | inl none ↦ rw (reads n m row.0 row.1, fine n m row.0 none) (rw none at row.2)
      | inr some ↦ absurd (cc (rw some.1 at row.2))
    ]

-- tests of which none holds, whatever they would tell
pub two_tests : (a b : Bool) (x y v w : TableError) → cond a (Some x) (cond b (Some y) None) ≡ None → cond a (Some v) (cond b (Some w) None) ≡ None
two_tests true b x y v w h = absurd (cc h)
two_tests false true x y v w h = absurd (cc h)
two_tests false false x y v w h = refl

pub three_tests : (a b c : Bool) (x y z u v w : TableError) → cond a (Some x) (cond b (Some y) (cond c (Some z) None)) ≡ None
    → cond a (Some u) (cond b (Some v) (cond c (Some w) None)) ≡ None
three_tests true b c x y z u v w h = absurd (cc h)
three_tests false b c x y z u v w h = two_tests b c y z v w h

module _ {S : Type 0} (judge : ℕ → S → List (List ℕ) → Result S TableError)
    (again_taken : (n m : ℕ) (done more : S) (fields : List (List ℕ)) → judge n done fields ≡ Ok more → judge m done fields ≡ Ok more) where
  -- rows without the faulty ones have no fault
  pub judged-faultless : (records : List (List (List ℕ))) (n m : ℕ) (done : S)
      → judged judge m done (faultless judge n done records) ≡ Ok (done_by judge n done records)
  unfolding judged faultless done_by
  judged-faultless [] n m done = refl
  judged-faultless (fields ∷ later) n m done = elim (answered (judge n done fields)) [
    | inl x ↦ rw x.1 (rw (again_taken n m done x.0 fields x.1) (judged-faultless later (n + 1) (m + 1) x.0))
    | inr e ↦ rw e.1 (judged-faultless later (n + 1) m done)
  ]
