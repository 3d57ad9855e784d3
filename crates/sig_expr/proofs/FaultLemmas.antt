-- The faults of gaps and brackets.
use Rattle.std.proofs.Common.{◌≡◌, ℕ, ◌+◌, Bool, true, false, cond, List, [], ◌∷◌, Option, Some, None, nat_eq, nat_lt}
use Rattle.std.specs.Prelude.{◌&&◌}
use Rattle.std.specs.Ordering.{nat_cmp}
use Rattle.std.specs.Cmp.Lexicographic.{slice_cmp}
use Rattle.sig_expr.specs.declared.lexer.State.{State}
use Rattle.sig_expr.specs.declared.lexer.Piece.{Piece}
use Rattle.sig_expr.specs.declared.lexer.Piece.TheVariants as piece
use Rattle.sig_expr.specs.declared.lexer.Step.{Step}
use Rattle.sig_expr.specs.declared.lexer.Step.TheVariants as step
use Rattle.sig_expr.specs.declared.error.ExprError.{ExprError}
use Rattle.sig_expr.specs.Ends.{word_of, with_words}
use Rattle.sig_expr.specs.Faults.{order_fault, range_fault, not_fault, gap_fault, gap_fault_to, fault_of, is_less, are_all}
use Rattle.sig_expr.specs.Reading.{feed_of, next_of}
use Rattle.sig_expr.specs.Passes.{fault_from, fault_at, opened_of, or_else}
use Rattle.sig_expr.specs.FirstFaults.{IsFirstFault}
use Rattle.sig_expr.specs.Refusals.{Means}

-- a fault, where there is one, means that it is the first
abbrev MeansFirst : Option ExprError → Type 0
MeansFirst None = Unit {0}
MeansFirst (Some f) = (t : List ℕ) → IsFirstFault f t → Means f t

means_if : (b : Bool) (x y : Option ExprError) → MeansFirst x → MeansFirst y → MeansFirst (cond b x y)
means_if true x y hx hy = hx
means_if false x y hx hy = hy

means_order : (not : Bool) (a b : List ℕ) (n : ℕ) → MeansFirst (order_fault not a b n)
unfolding order_fault
means_order not a b n =
    means_if (is_less (slice_cmp nat_cmp a b)) _ _ (means_if (not && (are_all 0 a && are_all 255 b)) _ _ (λ t h. h) tt) (λ t h. h)

means_gap_to : (min : ℕ) (max : Option ℕ) (n : ℕ) → MeansFirst (gap_fault_to min max n)
means_gap_to min None n = tt
means_gap_to min (Some max) n = means_if (nat_lt 65535 max) _ _ (λ t h. h)
    (means_if (nat_eq max 0) _ _ (λ t h. h) (means_if (nat_lt max min) _ _ (λ t h. h) tt))

means_gap : (min : ℕ) (max : Option ℕ) (n : ℕ) → MeansFirst (gap_fault min max n)
unfolding gap_fault
means_gap min max n = means_if (nat_lt 65535 min) _ _ (λ t h. h) (means_gap_to min max n)

means_words : (f : List ℕ → List ℕ → Option ExprError) (x y : Option (List ℕ)) → ((a b : List ℕ) → MeansFirst (f a b)) → MeansFirst (with_words f x y)
means_words f None y h = tt
means_words f (Some a) None h = tt
means_words f (Some a) (Some b) h = h a b

means_range : (not : Bool) (a b : _) (n : ℕ) → MeansFirst (range_fault not a b n)
unfolding range_fault
means_range not a b n =
    means_if (nat_eq a.len b.len) _ _ (means_if (nat_lt 8 a.len) _ _ (λ t h. h) (means_words _ (word_of a) (word_of b) (λ x y. means_order not x y n)))
    (λ t h. h)

means_not : (a : _) (n : ℕ) → MeansFirst (not_fault a n)
unfolding not_fault
means_not a n = means_if (nat_lt 8 a.len) _ _ (λ t h. h) tt

means_piece : (p : Piece) (n : ℕ) → MeansFirst (fault_of p n)
means_piece (piece.Byte b) n = tt
means_piece piece.Any n = tt
means_piece (piece.Gap min max) n = means_gap min max n
means_piece (piece.Range a b) n = means_range false a b n
means_piece (piece.Not a) n = means_not a n
means_piece (piece.NotRange a b) n = means_range true a b n
means_piece piece.Open n = tt
means_piece piece.Bar n = tt
means_piece piece.Close n = tt

means_or : (x y : Option ExprError) → MeansFirst x → MeansFirst y → MeansFirst (or_else x y)
means_or None y hx hy = hy
means_or (Some f) y hx hy = hx

means_at : (k : Step) (n : ℕ) (rest : Option ExprError) → MeansFirst rest → MeansFirst (fault_at k n rest)
means_at step.Refused n rest h = h
means_at (step.More t) n rest h = h
means_at (step.Whole p) n rest h = means_or (fault_of p n) rest (means_piece p n) h

means_from : (s : State) (opened n : ℕ) (t : List ℕ) → MeansFirst (fault_from s opened n t)
unfolding fault_from
means_from s opened n [] = tt
means_from s opened n (b ∷ t) = means_at (feed_of s b) (opened_of s opened n) _ (means_from (next_of s (feed_of s b)) (opened_of s opened n) (n + 1) t)

-- a fault that is found means that it is the first
pub fault_means : (s : State) (opened n : ℕ) (t : List ℕ) (f : ExprError) → fault_from s opened n t ≡ Some f → (u : List ℕ) → IsFirstFault f u → Means f u
fault_means s opened n t f e = rw e at (means_from s opened n t)
