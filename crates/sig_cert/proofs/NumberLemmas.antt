-- Numbers as bytes, the highest first.
use Rattle.std.proofs.Common.{◌≡◌, ℕ, ◌+◌, ◌*◌, ◌/◌, ◌%◌, ◌^◌, ◌<◌, ◌≤◌, List, [], ◌∷◌, length, take, refl, arith}
use Rattle.sig_bits.specs.Bytes.{IsBytes}
use Rattle.sig_cert.specs.Layouts.{four_bytes, two_bytes}
use Rattle.sig_cert.specs.Verdicts.{number_of}

-- ---- what is written is read

pub two_written : (n : ℕ) → number_of (two_bytes n) ≡ n
two_written n = omega arith

pub four_written : (n : ℕ) → number_of (four_bytes n) ≡ n
four_written n =
    let high : n / 65536 ≡ n / 16777216 * 256 + n / 65536 % 256 = let same : n / 65536 / 256 ≡ n / 16777216 = omega arith in omega arith in
    let middle : n / 256 ≡ n / 65536 * 256 + n / 256 % 256 = let same : n / 256 / 256 ≡ n / 65536 = omega arith in omega arith in
    omega arith

-- ---- what is read is written

same_two : (m n a b : ℕ) → m ≡ a → n ≡ b → m ∷ n ∷ [] ≡ a ∷ b ∷ []
same_two m n a b p q = cc

same_four : (k l m n a b c d : ℕ) → k ≡ a → l ≡ b → m ≡ c → n ≡ d → k ∷ l ∷ m ∷ n ∷ [] ≡ a ∷ b ∷ c ∷ d ∷ []
same_four k l m n a b c d p q r s = cc

two_read : (n a b : ℕ) → b < 256 → n ≡ a * 256 + b → two_bytes n ≡ a ∷ b ∷ []
two_read n a b in_b e = same_two (n / 256) (n % 256) a b (omega arith) (omega arith)

four_read : (n a b c d : ℕ) → b < 256 → c < 256 → d < 256 → n ≡ ((a * 256 + b) * 256 + c) * 256 + d → four_bytes n ≡ a ∷ b ∷ c ∷ d ∷ []
four_read n a b c d in_b in_c in_d e =
    let low : n / 256 ≡ (a * 256 + b) * 256 + c = omega arith in
    let middle : n / 65536 ≡ a * 256 + b = omega arith in
    let high : n / 16777216 ≡ a = omega arith in
    same_four (n / 16777216) (n / 65536 % 256) (n / 256 % 256) (n % 256) a b c d high (omega arith) (omega arith) (omega arith)

pub two_there : (bytes : List ℕ) → 2 ≤ length bytes → IsBytes bytes → two_bytes (number_of (take 2 bytes)) ≡ take 2 bytes
two_there [] long small = absurd (omega arith)
two_there (a ∷ []) long small = absurd (omega arith)
two_there (a ∷ (b ∷ bytes)) long small =
    two_read (number_of (a ∷ b ∷ [])) a b (small 1 0 (omega arith)) (omega arith)

pub four_there : (bytes : List ℕ) → 4 ≤ length bytes → IsBytes bytes → four_bytes (number_of (take 4 bytes)) ≡ take 4 bytes
four_there [] long small = absurd (omega arith)
four_there (a ∷ []) long small = absurd (omega arith)
four_there (a ∷ (b ∷ [])) long small = absurd (omega arith)
four_there (a ∷ (b ∷ (c ∷ []))) long small = absurd (omega arith)
four_there (a ∷ (b ∷ (c ∷ (d ∷ bytes)))) long small =
    four_read (number_of (a ∷ b ∷ c ∷ d ∷ [])) a b c d (small 1 0 (omega arith)) (small 2 0 (omega arith)) (small 3 0 (omega arith)) (omega arith)

pub four_small : (bytes : List ℕ) → 4 ≤ length bytes → IsBytes bytes → number_of (take 4 bytes) < 2 ^ 32
four_small [] long small = absurd (omega arith)
four_small (a ∷ []) long small = absurd (omega arith)
four_small (a ∷ (b ∷ [])) long small = absurd (omega arith)
four_small (a ∷ (b ∷ (c ∷ []))) long small = absurd (omega arith)
four_small (a ∷ (b ∷ (c ∷ (d ∷ bytes)))) long small =
    let in_a : a < 256 = small 0 0 (omega arith) in
    let in_b : b < 256 = small 1 0 (omega arith) in
    let in_c : c < 256 = small 2 0 (omega arith) in
    let in_d : d < 256 = small 3 0 (omega arith) in
    omega arith

-- the one byte that is there
pub one_there_is : (bytes : List ℕ) → 1 ≤ length bytes → (b : ℕ) × (take 1 bytes ≡ b ∷ [])
one_there_is [] long = absurd (omega arith)
one_there_is (b ∷ bytes) long = (b, refl)
