-- One hexadecimal digit, read as a pair with a 0 before it.
use Rattle.std.proofs.Common.{◌≡◌, ℕ, ◌+◌, ◌*◌, List, [], ◌∷◌, get_or, Option, Some, None, Result, Ok, Err, MatchResult, refl, ap, arith}
use Rattle.hex.specs.Hex.{◌>>=◌, decode_pairs, decode_sized, digit_or_error, hex_digit_value}
use Rattle.hex.specs.declared.error.FromHexError.{FromHexError}

-- what decoding the pair answers, by the value of the second digit
decoded_by : (b : ℕ) (o : Option ℕ) (r : Result (Unit {0}) FromHexError) (out : List ℕ)
    → MatchResult ((digit_or_error b 1 o >>= (λ l. Ok (0 * 16 + l))) >>= (λ byte. Ok (byte ∷ []))) (λ bytes. (r ≡ Ok tt) × (out ≡ bytes)) (λ e. r ≡ Err e)
    → MatchResult r (λ _. Some (get_or out 0 0) ≡ o) (λ _. None ≡ o)
decoded_by b None r out h = rw h refl
decoded_by b (Some v) r out h = let sum : 0 * 16 + v ≡ v = omega arith in rw (h.0, h.1) (ap Some sum)

-- the value of the digit, where there is one
pub decoded_digit : (b : ℕ) (r : Result (Unit {0}) FromHexError) (out : List ℕ)
    → MatchResult (decode_sized (48 ∷ b ∷ []) 1) (λ bytes. (r ≡ Ok tt) × (out ≡ bytes)) (λ e. r ≡ Err e)
    → MatchResult r (λ _. Some (get_or out 0 0) ≡ hex_digit_value b) (λ _. None ≡ hex_digit_value b)
unfolding decode_pairs
decoded_digit b r out h = decoded_by b (hex_digit_value b) r out h
