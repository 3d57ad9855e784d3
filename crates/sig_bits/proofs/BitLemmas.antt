-- Bits of bytes, and of lists of bytes.
use Rattle.std.proofs.Common.{◌≡◌, ◌≢◌, ◌↔◌, ◌⊎◌, inl, inr, ⊎_elim, ℕ, ◌+◌, ◌-◌, ◌*◌, ◌/◌, ◌%◌, ◌^◌, ◌<◌, ◌≤◌, min, max, List, length, get_or, set}
use Rattle.std.proofs.Common.{get_or-set_same, get_or-set_other, replicate, refl, sym, ap, ◌∙◌, arith, subst, w8, bit_and, bit_or}
use Rattle.std.specs.Int.{bit_at, bit_not, trailing_zeros}
use Rattle.std.proofs.lemmas.List.{get_or_past, get_or-replicate, length-replicate}
use Rattle.std.proofs.Math.Nat.{div-one}
use Rattle.std.proofs.lemmas.Nat.{and_le_l, shr-shr, shr_le}
use Rattle.std.proofs.lemmas.Nat.Bits.{bit_at_and, bit_at_or, bit_at_not, bit_at-zero, bit_at-lt, bit_at_above, bit_at-trailing_zeros, bit_at_ones}
use Rattle.std.proofs.lemmas.Nat.Bits.{bit_at_set_same, bit_at_set_other}
use Rattle.std.proofs.lemmas.Bool.{cases_eq, cases_lt}
use Rattle.sig_bits.specs.BitSets.{HasBit}

-- ---- one byte

-- a byte that is not 0 has a bit
pub some_bit : (x : ℕ) → x < 256 → x ≢ 0 → (j : ℕ) × (j < 8) × (bit_at x j ≡ 1)
some_bit x small some =
    let lowest = bit_at-trailing_zeros w8 x (omega arith) small in
    (trailing_zeros w8 x, lowest.0, lowest.1)

-- two bytes with a bit in common
pub some_common_bit : (x y : ℕ) → x < 256 → bit_and x y ≢ 0 → (j : ℕ) × (j < 8) × (bit_at x j ≡ 1) × (bit_at y j ≡ 1)
some_common_bit x y small some =
    let found = some_bit (bit_and x y) (omega (arith, and_le_l x y)) some in
    let first : bit_at x found.0 < 2 = bit_at-lt x found.0 in
    let second : bit_at y found.0 < 2 = bit_at-lt y found.0 in
    let both : bit_at (bit_and x y) found.0 ≡ min (bit_at x found.0) (bit_at y found.0) = bit_at_and x y found.0 in
    let one : bit_at (bit_and x y) found.0 ≡ 1 = found.2 in
    (found.0, found.1, omega arith, omega arith)

-- two bytes with no bit in common
pub no_common_bit : (x y j : ℕ) → bit_and x y ≡ 0 → bit_at x j ≡ 1 → bit_at y j ≡ 1 → ⊥
no_common_bit x y j none p q =
    let both : bit_at (bit_and x y) j ≡ min (bit_at x j) (bit_at y j) = bit_at_and x y j in
    let zero : bit_at (bit_and x y) j ≡ 0 = rw none (bit_at-zero j) in
    omega arith

-- a bit of either is a bit of both joined
pub bit_at_or-iff : (x y j : ℕ) → (bit_at (bit_or x y) j ≡ 1) ↔ ((bit_at x j ≡ 1) ⊎ (bit_at y j ≡ 1))
bit_at_or-iff x y j =
    let either : bit_at (bit_or x y) j ≡ max (bit_at x j) (bit_at y j) = bit_at_or x y j in
    let first : bit_at x j < 2 = bit_at-lt x j in
    let second : bit_at y j < 2 = bit_at-lt y j in
    (λ h. ⊎_elim (λ e. inl e) (λ e. inr (omega arith)) (cases_eq (bit_at x j) 1), λ h. ⊎_elim (λ e. omega arith) (λ e. omega arith) h)

-- a bit of both is a bit of what they have in common
pub bit_at_and-iff : (x y j : ℕ) → (bit_at (bit_and x y) j ≡ 1) ↔ ((bit_at x j ≡ 1) × (bit_at y j ≡ 1))
bit_at_and-iff x y j =
    let both : bit_at (bit_and x y) j ≡ min (bit_at x j) (bit_at y j) = bit_at_and x y j in
    let first : bit_at x j < 2 = bit_at-lt x j in
    let second : bit_at y j < 2 = bit_at-lt y j in
    (λ h. (omega arith, omega arith), λ h. let one = h.0 in let two = h.1 in omega arith)

-- a bit of the turned byte is one that the byte lacks
pub bit_at_not-iff : (y j : ℕ) → y < 256 → j < 8 → (bit_at (bit_not w8 y) j ≡ 1) ↔ (bit_at y j ≡ 1 → ⊥)
bit_at_not-iff y j small within =
    let turned : bit_at (bit_not w8 y) j ≡ 1 - bit_at y j = bit_at_not w8 y j small within in
    let bound : bit_at y j < 2 = bit_at-lt y j in
    (λ h e. omega arith, λ h. omega arith)

-- ---- lists of bytes

-- a list of zeros reads as 0 everywhere
get_or-zeros : (n k : ℕ) (z : ℕ) → z ≡ 0 → get_or (replicate n z) k 0 ≡ 0
get_or-zeros n k z none =
    ⊎_elim (λ within. get_or-replicate n k z 0 within ∙ none) (λ past. get_or_past (replicate n z) k 0 (rw length-replicate past)) (cases_lt k n)

-- bit j of byte k
pub HasBit-in_byte : (bits : List ℕ) (k j : ℕ) → j < 8 → bit_at (get_or bits k 0) j ≡ 1 → HasBit bits (8 * k + j)
unfolding HasBit
HasBit-in_byte bits k j within h =
    let byte : (8 * k + j) / 8 ≡ k = omega arith in
    let bit : (8 * k + j) % 8 ≡ j = omega arith in
    rw (byte, bit) h

-- a bit stands within the list
pub HasBit-within : (bits : List ℕ) (i : ℕ) → HasBit bits i → i < 8 * length bits
unfolding HasBit
HasBit-within bits i h =
    ⊎_elim (λ within. omega arith) (λ past. absurd (let e = rw (get_or_past bits (i / 8) 0 past) at h in omega (arith, bit_at-zero (i % 8))))
    (cases_lt (i / 8) (length bits))

-- zeros have no bit
pub zeros_have_no_bit : (n i : ℕ) → HasBit (replicate n 0) i → ⊥
unfolding HasBit
zeros_have_no_bit n i h =
    let one = rw (get_or-zeros n (i / 8) 0 refl) at h in
    omega (arith, bit_at-zero (i % 8))

-- a list of bytes with all bits has every one
pub every_bit_in_ones : (n i : ℕ) → i < 8 * n → HasBit (replicate n 255) i
unfolding HasBit
every_bit_in_ones n i within =
    rw (get_or-replicate {A = ℕ} n (i / 8) 255 0 (omega arith)) (bit_at_ones 8 (i % 8) (omega arith))

-- bytes that are joined one by one have the bits of either
pub HasBit-joined : (joined old src : List ℕ) → length joined ≡ length src → length old ≡ length src
    → ((k : ℕ) → k < length src → get_or joined k 0 ≡ bit_or (get_or old k 0) (get_or src k 0)) → (i : ℕ) → HasBit joined i ↔ (HasBit old i ⊎ HasBit src i)
unfolding HasBit
HasBit-joined joined old src len len' each i =
    let read : get_or joined (i / 8) 0 ≡ bit_or (get_or old (i / 8) 0) (get_or src (i / 8) 0) =
    ⊎_elim (each (i / 8)) (λ past. rw (get_or_past joined (i / 8) 0 (omega arith), get_or_past old (i / 8) 0 (omega arith), get_or_past src (i / 8) 0 past)
    refl) (cases_lt (i / 8) (length src)) in
    rw read (bit_at_or-iff (get_or old (i / 8) 0) (get_or src (i / 8) 0) (i % 8))

-- bytes of which the common bits are kept one by one have the bits of both
pub HasBit-common : (common old src : List ℕ) → length common ≡ length src → length old ≡ length src
    → ((k : ℕ) → k < length src → get_or common k 0 ≡ bit_and (get_or old k 0) (get_or src k 0)) → (i : ℕ) → HasBit common i ↔ (HasBit old i × HasBit src i)
unfolding HasBit
HasBit-common common old src len len' each i =
    let read : get_or common (i / 8) 0 ≡ bit_and (get_or old (i / 8) 0) (get_or src (i / 8) 0) =
    ⊎_elim (each (i / 8)) (λ past. rw (get_or_past common (i / 8) 0 (omega arith), get_or_past old (i / 8) 0 (omega arith)) refl)
    (cases_lt (i / 8) (length src)) in
    rw read (bit_at_and-iff (get_or old (i / 8) 0) (get_or src (i / 8) 0) (i % 8))

-- bytes that are turned one by one have the bits that the list lacks
pub HasBit-turned : (turned old : List ℕ) → ((k : ℕ) → k < length turned → get_or turned k 0 ≡ bit_not w8 (get_or old k 0)) → ((k : ℕ) → get_or old k 0 < 256)
    → (i : ℕ) → i < 8 * length turned → HasBit turned i ↔ (HasBit old i → ⊥)
unfolding HasBit
HasBit-turned turned old each small i within =
    rw (each (i / 8) (omega arith)) (bit_at_not-iff (get_or old (i / 8) 0) (i % 8) (small (i / 8)) (omega arith))

-- a byte with one bit set has that bit and those it had
bit_at_set-iff : (x i j : ℕ) → i < 8 → (bit_at (bit_or x (1 * 2 ^ i % 256)) j ≡ 1) ↔ ((j ≡ i) ⊎ (bit_at x j ≡ 1))
bit_at_set-iff x i j within =
    ⊎_elim (λ same. (λ _. inl same, λ _. rw same (bit_at_set_same w8 x i within)))
    (λ other. let kept : bit_at (bit_or x (1 * 2 ^ i % 256)) j ≡ bit_at x j = bit_at_set_other w8 x i within j other in
    (λ h. inr (sym kept ∙ h), λ h. kept ∙ ⊎_elim (λ same. absurd (other same)) (λ had. had) h))
    (cases_eq j i)

-- a bit that is set joins the others
pub HasBit-set : (bits : List ℕ) (i j : ℕ) → i < 8 * length bits → HasBit (set bits (i / 8) (bit_or (get_or bits (i / 8) 0) (1 * 2 ^ (i % 8) % 256))) j
    ↔ ((j ≡ i) ⊎ HasBit bits j)
unfolding HasBit
HasBit-set bits i j within =
    let old : ℕ = get_or bits (i / 8) 0 in
    let new : ℕ = bit_or old (1 * 2 ^ (i % 8) % 256) in
    let here : i / 8 < length bits = omega arith in
    ⊎_elim
    (λ (same : j / 8 ≡ i / 8).
    let read : get_or (set bits (i / 8) new) (j / 8) 0 ≡ new = rw same (get_or-set_same bits (i / 8) new 0 here) in
    let had : get_or bits (j / 8) 0 ≡ old = rw same refl in
    let law = bit_at_set-iff old (i % 8) (j % 8) (omega arith) in
    rw (read, had)
    (λ h. ⊎_elim (λ e. inl (omega arith)) (λ e. inr e) (law.0 h), λ h. law.1 (⊎_elim (λ e. inl (ap (λ n. n % 8) e)) (λ e. inr e) h)))
    (λ (other : j / 8 ≢ i / 8). rw (get_or-set_other bits (i / 8) (j / 8) new 0 other)
    (λ h. inr h, λ h. ⊎_elim (λ e. absurd (other (ap (λ n. n / 8) e))) (λ e. e) h))
    (cases_eq (j / 8) (i / 8))

-- the bits of a list and those of another at one byte
no_bit_at_one_byte : (a b : List ℕ) (i : ℕ) → bit_and (get_or a (i / 8) 0) (get_or b (i / 8) 0) ≡ 0 → HasBit a i → HasBit b i → ⊥
unfolding HasBit
no_bit_at_one_byte a b i none = no_common_bit (get_or a (i / 8) 0) (get_or b (i / 8) 0) (i % 8) none

-- lists with no bit in both
pub no_bit_in_both : (a b : List ℕ) → ((k : ℕ) → k < length a → bit_and (get_or a k 0) (get_or b k 0) ≡ 0) → (i : ℕ) → HasBit a i → HasBit b i → ⊥
no_bit_in_both a b none i p =
    let within : i < 8 * length a = HasBit-within a i p in
    no_bit_at_one_byte a b i (none (i / 8) (omega arith)) p

-- a byte with bits in both lists
pub some_bit_in_both : (a b : List ℕ) (k : ℕ) → get_or a k 0 < 256 → bit_and (get_or a k 0) (get_or b k 0) ≢ 0 → (i : ℕ) × (HasBit a i × HasBit b i)
some_bit_in_both a b k small some =
    let found = some_common_bit (get_or a k 0) (get_or b k 0) small some in
    (8 * k + found.0, (HasBit-in_byte a k found.0 found.1 found.2, HasBit-in_byte b k found.0 found.1 found.3))

-- one byte's bits in the first list are all in the second
every_bit_at_one_byte : (a b : List ℕ) (i : ℕ) → get_or b (i / 8) 0 < 256 → bit_and (get_or a (i / 8) 0) (bit_not w8 (get_or b (i / 8) 0)) ≡ 0 → HasBit a i
    → HasBit b i
unfolding HasBit
every_bit_at_one_byte a b i small none h =
    let turned = bit_at_not-iff (get_or b (i / 8) 0) (i % 8) small (omega arith) in
    ⊎_elim (λ has. has) (λ lacks. absurd (no_common_bit (get_or a (i / 8) 0) _ (i % 8) none h (turned.1 lacks)))
    (cases_eq (bit_at (get_or b (i / 8) 0) (i % 8)) 1)

-- a byte of zeros has no bit
pub no_bit_at_zero : (bits : List ℕ) (i : ℕ) → get_or bits (i / 8) 0 ≡ 0 → HasBit bits i → ⊥
unfolding HasBit
no_bit_at_zero bits i none h =
    let e = rw none at h in
    omega (arith, bit_at-zero (i % 8))

-- a list whose bits are all in another
pub every_bit : (a b : List ℕ) → ((k : ℕ) → get_or b k 0 < 256) → ((k : ℕ) → k < length a → bit_and (get_or a k 0) (bit_not w8 (get_or b k 0)) ≡ 0) → (i : ℕ)
    → HasBit a i → HasBit b i
every_bit a b small none i h =
    let within : i < 8 * length a = HasBit-within a i h in
    every_bit_at_one_byte a b i (small (i / 8)) (none (i / 8) (omega arith)) h

-- bit j of byte k is a bit of the list
pub bit_in_byte : (bits : List ℕ) (k j : ℕ) → j < 8 → HasBit bits (8 * k + j) → bit_at (get_or bits k 0) j ≡ 1
unfolding HasBit
bit_in_byte bits k j within h =
    let byte : (8 * k + j) / 8 ≡ k = omega arith in
    let bit : (8 * k + j) % 8 ≡ j = omega arith in
    rw (byte, bit) at h

-- a byte with a bit that the second list lacks
pub not_every_bit : (a b : List ℕ) (k : ℕ) → get_or a k 0 < 256 → get_or b k 0 < 256 → bit_and (get_or a k 0) (bit_not w8 (get_or b k 0)) ≢ 0
    → ((i : ℕ) → HasBit a i → HasBit b i) → ⊥
not_every_bit a b k small small' some every =
    let found = some_common_bit (get_or a k 0) (bit_not w8 (get_or b k 0)) small some in
    let turned = bit_at_not-iff (get_or b k 0) found.0 small' found.1 in
    turned.0 found.3 (bit_in_byte b k found.0 found.1 (every (8 * k + found.0) (HasBit-in_byte a k found.0 found.1 found.2)))

-- ---- the bits of a byte from one of them on

-- a bit of what is left of a number
pub bit_at_rest : (x from j : ℕ) → bit_at (x / 2 ^ from) j ≡ bit_at x (from + j)
bit_at_rest x from j = ap (λ n. n % 2) (shr-shr x from j)

-- a bit of the byte at b, from b on, is one of what is left of the byte
bit_from_here : (bits : List ℕ) (b a : ℕ) → b ≤ a → a / 8 ≡ b / 8 → HasBit bits a → bit_at (get_or bits (b / 8) 0 / 2 ^ (b % 8)) (a - b) ≡ 1
unfolding HasBit
bit_from_here bits b a from same h =
    let bit : a % 8 ≡ b % 8 + (a - b) = omega arith in
    bit_at_rest (get_or bits (b / 8) 0) (b % 8) (a - b) ∙ (rw (same, bit) at h)

-- the lowest bit of what is left of the byte at b
pub lowest_from_here : (bits : List ℕ) (b : ℕ) → ((k : ℕ) → get_or bits k 0 < 256) → get_or bits (b / 8) 0 / 2 ^ (b % 8) ≢ 0
    → (HasBit bits (b + trailing_zeros w8 (get_or bits (b / 8) 0 / 2 ^ (b % 8))))
    × ((a : ℕ) → b ≤ a → a < b + trailing_zeros w8 (get_or bits (b / 8) 0 / 2 ^ (b % 8)) → HasBit bits a → ⊥)
lowest_from_here bits b small some =
    let x : ℕ = get_or bits (b / 8) 0 in
    let rest : ℕ = x / 2 ^ (b % 8) in
    let lowest = bit_at-trailing_zeros w8 rest (omega arith) (omega (arith, small (b / 8), shr_le x (b % 8))) in
    let t : ℕ = trailing_zeros w8 rest in
    let read : bit_at x (b % 8 + t) ≡ 1 = sym (bit_at_rest x (b % 8) t) ∙ lowest.1 in
    let within : b % 8 + t < 8 = ⊎_elim (λ lt. lt) (λ past. omega (arith, bit_at_above x 8 (b % 8 + t) (small (b / 8)) past)) (cases_lt (b % 8 + t) 8) in
    let here : 8 * (b / 8) + (b % 8 + t) ≡ b + t = omega arith in (
      subst (HasBit bits) here (HasBit-in_byte bits (b / 8) (b % 8 + t) within read),
      λ a from below h.
          let zero = lowest.2 (a - b) (omega arith) in
          let one = bit_from_here bits b a from (omega arith) h in
          omega arith,
    )

-- the lowest bit of byte k
pub lowest_of_byte : (bits : List ℕ) (k : ℕ) → ((j : ℕ) → get_or bits j 0 < 256) → get_or bits k 0 ≢ 0
    → (HasBit bits (8 * k + trailing_zeros w8 (get_or bits k 0))) × ((a : ℕ) → 8 * k ≤ a → a < 8 * k + trailing_zeros w8 (get_or bits k 0) → HasBit bits a → ⊥)
lowest_of_byte bits k small some =
    subst (λ x. HasBit bits (8 * k + trailing_zeros w8 x) × ((a : ℕ) → 8 * k ≤ a → a < 8 * k + trailing_zeros w8 x → HasBit bits a → ⊥)) whole
    (lowest_from_here bits (8 * k) small (λ none. some (sym whole ∙ none)))
  where
    whole : get_or bits (8 * k / 8) 0 / 2 ^ (8 * k % 8) ≡ get_or bits k 0
    whole =
        let place : 8 * k / 8 ≡ k = omega arith in
        let first : 8 * k % 8 ≡ 0 = omega arith in
        rw (place, first) (div-one (get_or bits k 0))

-- nothing is left of the byte at b, and nothing is in those from the next one up to another
pub none_up_to : (bits : List ℕ) (b k a : ℕ) → get_or bits (b / 8) 0 / 2 ^ (b % 8) ≡ 0 → ((j : ℕ) → b / 8 + 1 ≤ j → j < k → get_or bits j 0 ≡ 0) → b ≤ a
    → a / 8 < k → HasBit bits a → ⊥
none_up_to bits b k a none empty from below h =
    ⊎_elim (λ (here : a / 8 ≡ b / 8). let one = rw none at (bit_from_here bits b a from here h) in omega (arith, bit_at-zero (a - b)))
    (λ (past : a / 8 ≢ b / 8). no_bit_at_zero bits a (empty (a / 8) (omega arith) below) h)
    (cases_eq (a / 8) (b / 8))
