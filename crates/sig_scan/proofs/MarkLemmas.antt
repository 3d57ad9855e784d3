-- Bits of words and vectors, as numbers of a set.
use Rattle.sig_scan.proofs.Common.{◌≡◌, ◌⊎◌, ◌↔◌, ℕ, ◌+◌, ◌/◌, ◌%◌, ◌^◌, ◌<◌, Bool, false, cond, List, length, map, get_or, get_or-set_same, get_or-set_other}
use Rattle.sig_scan.proofs.Common.{replicate, bit_or, bit_and, w8, w64, ap, ◌∙◌, arith, bit_at, bit_not, mask_l, top, zip2, get_or-map, bit_at_and}
use Rattle.sig_scan.proofs.Common.{bit_at_cat_high, bit_at_cat_low, bit_at-lt, bit_at_not, bit_at_ones, bit_at_or, bit_mask_l, bitmask_splat, HasBit}
use Rattle.std.proofs.Common.{set}

-- the bits of a byte below 256 are those of the number that it is the end of
bit_at-kept : (n j : ℕ) → j < 8 → bit_at (n % 256) j ≡ bit_at n j
bit_at-kept n j within = grind (arith, bit_at_cat_low (n / 256) 8 (n % 256) j)

-- the bits above the lowest eight
pub bit_at-next_byte : (n j : ℕ) → bit_at (n / 256) j ≡ bit_at n (8 + j)
bit_at-next_byte n j = grind (arith, bit_at_cat_high (n / 256) 8 (n % 256) (8 + j))

-- a bit of either is a bit of both joined
bit_at_or-iff : (x y j : ℕ) → (bit_at (bit_or x y) j ≡ 1) ↔ ((bit_at x j ≡ 1) ⊎ (bit_at y j ≡ 1))
bit_at_or-iff x y j = grind (arith, bit_at_or x y j, bit_at-lt x j, bit_at-lt y j)

-- a byte that joins one of a set
pub HasBit-byte : (bits : List ℕ) (i left j : ℕ) → i < length bits
    → HasBit (set bits i (bit_or (get_or bits i 0) (left % 256))) j ↔ (HasBit bits j ⊎ ((j / 8 ≡ i) × (bit_at left (j % 8) ≡ 1)))
unfolding HasBit
HasBit-byte bits i left j within =
    grind (arith, get_or-set_same, get_or-set_other, bit_at-kept left (j % 8), bit_at_or-iff (get_or bits i 0) (left % 256) (j % 8))

-- a byte of ones
pub HasBit-ones : (bits : List ℕ) (k j : ℕ) → k < length bits → HasBit (set bits k 255) j ↔ ((j / 8 ≡ k) ⊎ HasBit bits j)
unfolding HasBit
HasBit-ones bits k j within = grind (arith, get_or-set_same bits k 255 0 within, get_or-set_other bits k (j / 8) 255 0, bit_at_ones 8 (j % 8))

-- the bit of a lane that is compared with a byte
pub mask_bit : (t : ℕ → ℕ → Bool) (xs : List ℕ) (y k : ℕ) → length xs ≡ 32 → k < 32 →
    bit_at (mask_l (map (top 7) (zip2 (λ a b. cond (t a b) 255 0) xs (replicate 32 y))) % 2 ^ 64) k ≡ cond (t (get_or xs k 0) y) 1 0
mask_bit t xs y k len low = ap (λ m. bit_at m k) (bitmask_splat w8 t xs 32 y len (omega arith)) ∙ bit_mask_l (map (λ x. t x y) xs) k
    ∙ ap (λ b. cond b 1 0) (get_or-map (λ x. t x y) xs k 0 false (omega arith))

-- a bit of both words, the second one turned
pub inside_bit : (x y k : ℕ) → y < 2 ^ 64 → k < 64 → (bit_at (bit_and x (bit_not w64 y)) k ≡ 1) ↔ ((bit_at x k ≡ 1) × (bit_at y k ≡ 1 → ⊥))
inside_bit x y k small within = grind (arith, bit_at_and x (bit_not w64 y) k, bit_at_not w64 y k small within, bit_at-lt x k, bit_at-lt y k)
