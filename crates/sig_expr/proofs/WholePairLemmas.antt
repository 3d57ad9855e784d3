-- A pair that is read whole leads where its two digits do, one after the other.
use Rattle.std.proofs.Common.{◌≡◌, ℕ, ◌+◌, true, List, [], ◌∷◌, drop, Option, Some, None, refl, ap, arith}
use Rattle.hex.specs.Hex.{hex_digit_value}
use Rattle.sig_expr.specs.declared.lexer.Piece.TheVariants as piece
use Rattle.sig_expr.specs.declared.lexer.State.{State}
use Rattle.sig_expr.specs.declared.lexer.Step.TheVariants as step
use Rattle.sig_expr.specs.declared.lexer.Token.TheVariants as token
use Rattle.sig_expr.specs.Built.{Built, built_of}
use Rattle.sig_expr.specs.Passes.{built_from, fault_from, stop_from}
use Rattle.sig_expr.specs.Reading.{byte_of, feed_of, go_on_of, is_between, next_of, pair_in_front}
use Rattle.sig_expr.proofs.ScanLemmas.{at, begin_digit}

-- what the two digits do
record Fed (s : State) (high low b : ℕ) : Type 0 where
  value : ℕ
  first : feed_of s high ≡ step.More (token.Half value)
  second : feed_of (at s.context (token.Half value)) low ≡ step.Whole (piece.Byte b)

module _ (s : State) (between : is_between s.token ≡ true) where
  fed : (high low b : ℕ) → byte_of (hex_digit_value high) (hex_digit_value low) ≡ Some b → Fed s high low b
  unfolding feed_of go_on_of
  fed high low b pair = go (hex_digit_value high) (hex_digit_value low) refl refl pair
    where
      go : (x y : Option ℕ) → hex_digit_value high ≡ x → hex_digit_value low ≡ y → byte_of x y ≡ Some b → Fed s high low b
      go None y is_high is_low pair = absurd (cc pair)
      go (Some x) None is_high is_low pair = absurd (cc pair)
      go (Some x) (Some y) is_high is_low pair = record {
        value = x;
        first = rw between (begin_digit s.context high x is_high);
        second = rw is_low (ap (λ o. step.Whole (piece.Byte o)) (cc pair));
      }

  -- where no expression goes on
  pub stop_behind_pair : (n b : ℕ) (t : List ℕ) → pair_in_front t ≡ Some b
      → stop_from s n t ≡ stop_from (next_of s (step.Whole (piece.Byte b))) (n + 2) (drop 2 t)
  unfolding stop_from
  stop_behind_pair n b [] pair = absurd (cc pair)
  stop_behind_pair n b (high ∷ []) pair = absurd (cc pair)
  stop_behind_pair n b (high ∷ low ∷ t) pair =
      let f = fed high low b pair in
      let two : n + 1 + 1 ≡ n + 2 = omega arith in
      rw (f.first, f.second, two) refl

  -- the first fault: the next piece begins behind the pair
  pub fault_behind_pair : (o n b : ℕ) (t : List ℕ) → pair_in_front t ≡ Some b
      → fault_from s o n t ≡ fault_from (next_of s (step.Whole (piece.Byte b))) o (n + 2) (drop 2 t)
  unfolding fault_from
  fault_behind_pair o n b [] pair = absurd (cc pair)
  fault_behind_pair o n b (high ∷ []) pair = absurd (cc pair)
  fault_behind_pair o n b (high ∷ low ∷ []) pair =
      let f = fed high low b pair in
      rw (f.first, f.second) refl
  fault_behind_pair o n b (high ∷ low ∷ next ∷ t) pair =
      let f = fed high low b pair in
      let two : n + 1 + 1 ≡ n + 2 = omega arith in
      rw (f.first, f.second, two) refl

  -- what is built
  pub built_behind_pair : (u : Built) (b : ℕ) (t : List ℕ) → pair_in_front t ≡ Some b
      → built_from u s t ≡ built_from (built_of u (piece.Byte b)) (next_of s (step.Whole (piece.Byte b))) (drop 2 t)
  unfolding built_from
  built_behind_pair u b [] pair = absurd (cc pair)
  built_behind_pair u b (high ∷ []) pair = absurd (cc pair)
  built_behind_pair u b (high ∷ low ∷ t) pair =
      let f = fed high low b pair in
      rw (f.first, f.second) refl
