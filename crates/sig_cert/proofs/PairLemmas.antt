-- How many pairs there are, and that the signatures of a format are those of the table.
use Rattle.std.proofs.Common.{◌≡◌, ℕ, zero, suc, ◌+◌, ◌-◌, ◌*◌, ◌/◌, length, refl, ◌∙◌, arith, length-append}
use Rattle.std.specs.Prelude.{flat_map}
use Rattle.std.specs.List.{range_with_len}
use Rattle.std.proofs.Math.Nat.{suc-mul, mul-suc}
use Rattle.std.proofs.lemmas.List.FromFn.{length-map-range_with_len}
use Rattle.sig_cert.specs.Pairs.{format_pairs, pairs_with}

square : (k : ℕ) → suc k * suc k ≡ k * k + k + suc k
square k = let a = suc-mul k (suc k) in let b = mul-suc k k in omega arith

pairs_behind : (n k i : ℕ) → i + k ≡ n → 2 * length (flat_map (pairs_with n) (range_with_len i k)) + k ≡ k * k
pairs_behind n zero i e = refl
pairs_behind n (suc k) i e =
    let first : length (pairs_with n i) ≡ k = length-map-range_with_len (λ j. (i, j)) (i + 1) (n - (i + 1)) ∙ omega arith in
    let both = length-append (pairs_with n i) (flat_map (pairs_with n) (range_with_len (i + 1) k)) in
    let later = pairs_behind n k (i + 1) (omega arith) in
    let all = square k in omega (arith, first, both, later, all)

half : (n count : ℕ) → 2 * count + n ≡ n * n → n * (n - 1) / 2 ≡ count
half zero count e = omega arith
half (suc k) count e = let s = square k in let m = suc-mul k k in let less : suc k - 1 ≡ k = omega arith in rw less (omega (arith, s, m, e))

-- the count of pairs
pub length-format_pairs : (n : ℕ) → n * (n - 1) / 2 ≡ length (format_pairs n)
length-format_pairs n = half n (length (format_pairs n)) (pairs_behind n n 0 (omega arith))
