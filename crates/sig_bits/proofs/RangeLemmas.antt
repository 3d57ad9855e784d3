-- Ranges of bits, and what moves a place up.
use Rattle.std.proofs.Common.{◌≡◌, ◌≢◌, ◌↔◌, ◌⊎◌, inl, inr, ⊎_elim, ℕ, zero, suc, ◌+◌, ◌-◌, ◌*◌, ◌/◌, ◌%◌, ◌^◌, ◌<◌, ◌≤◌, List, get_or, refl, sym, ap, ◌∙◌}
use Rattle.std.proofs.Common.{arith, bit_or}
use Rattle.std.specs.Int.{bit_at}
use Rattle.std.proofs.lemmas.Nat.Bits.{bit_at_above, bit_at-zero, bit_at_cat_low, bit_at_lowest, bit_at-suc}
use Rattle.std.proofs.lemmas.Bool.{cases_eq, cases_lt}
use Rattle.sig_bits.specs.BitSets.{HasBit, HasBitBetween, IsShiftedBit}
use Rattle.sig_bits.proofs.BitLemmas.{HasBit-in_byte, bit_in_byte, some_bit, bit_at_or-iff}

-- ---- ranges that follow one another

-- what is shifted of two ranges is shifted of the one that they make
pub shifted_joined : (bits : List ℕ) (a b c j : ℕ) → a ≤ b → b ≤ c → IsShiftedBit bits a c j ↔ (IsShiftedBit bits a b j ⊎ IsShiftedBit bits b c j)
shifted_joined bits a b c j low high = (
  λ (i, h). ⊎_elim (λ below. inl (i, (h.0, h.1, below, h.3))) (λ above. inr (i, (h.0, above, h.2, h.3))) (cases_lt i b),
  λ h. ⊎_elim (λ (i, g). (i, (g.0, g.1, omega arith, g.3))) (λ (i, g). (i, (g.0, omega arith, g.2, g.3))) h,
)

-- nothing is shifted of an empty range
pub none_shifted : (bits : List ℕ) (a j : ℕ) → IsShiftedBit bits a a j → ⊥
none_shifted bits a j (i, h) = omega arith

-- three shifts in a row
pub shifted_thrice : (d0 d1 d2 d3 bits : List ℕ) (a b c d : ℕ) → a ≤ b → b ≤ c → c ≤ d → ((j : ℕ) → HasBit d1 j ↔ (HasBit d0 j ⊎ IsShiftedBit bits a b j))
    → ((j : ℕ) → HasBit d2 j ↔ (HasBit d1 j ⊎ IsShiftedBit bits b c j)) → ((j : ℕ) → HasBit d3 j ↔ (HasBit d2 j ⊎ IsShiftedBit bits c d j)) → (j : ℕ)
    → HasBit d3 j ↔ (HasBit d0 j ⊎ IsShiftedBit bits a d j)
shifted_thrice d0 d1 d2 d3 bits a b c d ab bc cd one two three j =
    let first = shifted_joined bits a b d j ab (omega arith) in
    let second = shifted_joined bits b c d j bc cd in (
      λ h. ⊎_elim
          (λ h2. ⊎_elim (λ h1. ⊎_elim (λ h0. inl h0) (λ s. inr (first.1 (inl s))) ((one j).0 h1)) (λ s. inr (first.1 (inr (second.1 (inl s))))) ((two j).0 h2))
          (λ s. inr (first.1 (inr (second.1 (inr s)))))
          ((three j).0 h),
      λ h. ⊎_elim
          (λ h0. (three j).1 (inl ((two j).1 (inl ((one j).1 (inl h0))))))
          (λ s. ⊎_elim (λ s1. (three j).1 (inl ((two j).1 (inl ((one j).1 (inr s1))))))
          (λ r. ⊎_elim (λ s2. (three j).1 (inl ((two j).1 (inr s2)))) (λ s3. (three j).1 (inr s3)) (second.0 r)) (first.0 s))
          h,
    )

-- ---- one byte of a shift

-- the bits of a byte below 256 are those of the number that it is the end of
bit_at-kept : (n j : ℕ) → j < 8 → bit_at (n % 256) j ≡ bit_at n j
bit_at-kept n j within =
    let whole : n / 256 * 2 ^ 8 + n % 256 ≡ n = omega arith in
    sym (bit_at_cat_low (n / 256) 8 (n % 256) j within) ∙ ap (λ k. bit_at k j) whole

-- the bits of a byte that moved up, the highest lost
moved_up : (x j : ℕ) → j < 8 → (bit_at (x * 2 % 256) j ≡ 1) ↔ ((i : ℕ) × ((j ≡ i + 1) × (bit_at x i ≡ 1)))
moved_up x zero within =
    let kept : bit_at (x * 2 % 256) 0 ≡ bit_at (x * 2) 0 = bit_at-kept (x * 2) 0 within in
    let even : bit_at (x * 2) 0 ≡ x * 2 % 2 = bit_at_lowest (x * 2) in
    (λ h. absurd (omega arith), λ (i, h). absurd (omega arith))
moved_up x (suc i) within =
    let kept : bit_at (x * 2 % 256) (suc i) ≡ bit_at (x * 2) (suc i) = bit_at-kept (x * 2) (suc i) within in
    let half : x * 2 / 2 ≡ x = omega arith in
    let next : bit_at (x * 2) (suc i) ≡ bit_at x i = bit_at-suc (x * 2) i ∙ ap (λ k. bit_at k i) half in
    (λ h. (i, (omega arith, sym next ∙ sym kept ∙ h)), λ (k, h). let same : k ≡ i = omega arith in kept ∙ next ∙ ap (λ q. bit_at x q) (sym same) ∙ h.1)

-- the highest bit of a byte, moved to the lowest place
highest : (y j : ℕ) → y < 256 → (bit_at (y / 128) j ≡ 1) ↔ ((j ≡ 0) × (bit_at y 7 ≡ 1))
highest y zero small =
    let lowest : bit_at (y / 128) 0 ≡ bit_at y 7 = bit_at_lowest (y / 128) in
    (λ h. (refl, sym lowest ∙ h), λ h. lowest ∙ h.1)
highest y (suc i) small =
    let none : bit_at (y / 128) (suc i) ≡ 0 = bit_at_above (y / 128) 1 (suc i) (omega arith) (omega arith) in
    (λ h. absurd (omega arith), λ h. absurd (omega arith))

-- a byte that moved up, with the highest bit of the byte before it
shifted_byte : (x y j : ℕ) → y < 256 → j < 8 → (bit_at (bit_or (x * 2 % 256) (y / 128)) j ≡ 1)
    ↔ (((i : ℕ) × ((j ≡ i + 1) × (bit_at x i ≡ 1))) ⊎ ((j ≡ 0) × (bit_at y 7 ≡ 1)))
shifted_byte x y j small within =
    let either = bit_at_or-iff (x * 2 % 256) (y / 128) j in
    let up = moved_up x j within in
    let top = highest y j small in (
      λ h. ⊎_elim (λ e. inl (up.0 e)) (λ e. inr (top.0 e)) (either.0 h),
      λ h. either.1 (⊎_elim (λ e. inl (up.1 e)) (λ e. inr (top.1 e)) h),
    )

-- ---- whole bytes of a shift

-- what stands in byte m after a shift
unfoldable pub shifted_at : List ℕ → ℕ → ℕ
shifted_at src m = bit_or (get_or src m 0 * 2 % 256) (get_or src (m - 1) 0 / 128)

shifted_at-iff : (src : List ℕ) (m r : ℕ) → 0 < m → r < 8 → get_or src (m - 1) 0 < 256 → (bit_at (shifted_at src m) r ≡ 1)
    ↔ ((i : ℕ) × ((8 * m + r ≡ i + 1) × HasBit src i))
unfolding shifted_at
shifted_at-iff src m r some within small =
    let law = shifted_byte (get_or src m 0) (get_or src (m - 1) 0) r small within in (
      λ h. ⊎_elim
          (λ (i, e). (8 * m + i, (omega arith, HasBit-in_byte src m i (omega arith) e.1)))
          (λ e. (8 * (m - 1) + 7, (omega arith, HasBit-in_byte src (m - 1) 7 (omega arith) e.1)))
          (law.0 h),
      λ (i, e). law.1 (⊎_elim
          (λ zero_th. let at : i ≡ 8 * (m - 1) + 7 = omega arith in inr (zero_th, bit_in_byte src (m - 1) 7 (omega arith) (rw at at e.1)))
          (λ later. let at : i ≡ 8 * m + (r - 1) = omega arith in inl (r - 1, (omega arith, bit_in_byte src m (r - 1) (omega arith) (rw at at e.1))))
          (cases_eq r 0)),
    )

-- a byte's bits after a shift into it
HasBit-joined_byte : (new old : List ℕ) (v j : ℕ) → get_or new (j / 8) 0 ≡ bit_or (get_or old (j / 8) 0) v → HasBit new j
    ↔ (HasBit old j ⊎ (bit_at v (j % 8) ≡ 1))
unfolding HasBit
HasBit-joined_byte new old v j e = rw e (bit_at_or-iff (get_or old (j / 8) 0) v (j % 8))

HasBit-same_byte : (new old : List ℕ) (j : ℕ) → get_or new (j / 8) 0 ≡ get_or old (j / 8) 0 → HasBit new j ↔ HasBit old j
unfolding HasBit
HasBit-same_byte new old j e = rw e (λ h. h, λ h. h)

-- whole bytes that are shifted
pub HasBit-shifted : (new old src : List ℕ) (first last : ℕ) → 0 < first → ((m : ℕ) → get_or src m 0 < 256)
    → ((m : ℕ) → first ≤ m → m < last → get_or new m 0 ≡ bit_or (get_or old m 0) (shifted_at src m)) → ((m : ℕ) → m < first → get_or new m 0 ≡ get_or old m 0)
    → ((m : ℕ) → last ≤ m → get_or new m 0 ≡ get_or old m 0) → (j : ℕ) → HasBit new j ↔ (HasBit old j ⊎ IsShiftedBit src (8 * first - 1) (8 * last - 1) j)
HasBit-shifted new old src first last some small each below above j =
    ⊎_elim
    (λ low. let same = HasBit-same_byte new old j (below (j / 8) low) in (λ h. inl (same.0 h), λ h. ⊎_elim (λ e. same.1 e) (λ (i, e). absurd (omega arith)) h))
    (λ high. ⊎_elim
    (λ inside. let joined = HasBit-joined_byte new old (shifted_at src (j / 8)) j (each (j / 8) high inside) in
    let law = shifted_at-iff src (j / 8) (j % 8) (omega arith) (omega arith) (small (j / 8 - 1)) in (
      λ h. ⊎_elim (λ e. inl e) (λ e. inr (let found = law.0 e in (found.0, (omega arith, omega arith, omega arith, found.1.1)))) (joined.0 h),
      λ h. joined.1 (⊎_elim (λ e. inl e) (λ (i, e). inr (law.1 (i, (omega arith, e.3)))) h),
    ))
    (λ past. let same = HasBit-same_byte new old j (above (j / 8) past) in
    (λ h. inl (same.0 h), λ h. ⊎_elim (λ e. same.1 e) (λ (i, e). absurd (omega arith)) h))
    (cases_lt (j / 8) last))
    (cases_lt (j / 8) first)

-- ---- some bit of a range

-- of three ranges in a row
pub between_joined : (bits : List ℕ) (a b c : ℕ) → a ≤ b → b ≤ c → HasBitBetween bits a c ↔ (HasBitBetween bits a b ⊎ HasBitBetween bits b c)
between_joined bits a b c low high = (
  λ (i, h). ⊎_elim (λ below. inl (i, (h.0, below, h.2))) (λ above. inr (i, (above, h.1, h.2))) (cases_lt i b),
  λ h. ⊎_elim (λ (i, g). (i, (g.0, omega arith, g.2))) (λ (i, g). (i, (omega arith, g.1, g.2))) h,
)

-- bytes of zeros have no bit
pub none_between : (bits : List ℕ) (first last : ℕ) → ((k : ℕ) → first ≤ k → k < last → get_or bits k 0 ≡ 0) → HasBitBetween bits (8 * first) (8 * last) → ⊥
unfolding HasBit
none_between bits first last zeros (i, h) =
    let one = rw (zeros (i / 8) (omega arith) (omega arith)) at h.2 in
    omega (arith, bit_at-zero (i % 8))

-- a byte that is not 0 has a bit
pub some_between : (bits : List ℕ) (first last k : ℕ) → first ≤ k → k < last → get_or bits k 0 < 256 → get_or bits k 0 ≢ 0
    → HasBitBetween bits (8 * first) (8 * last)
some_between bits first last k low high small some =
    let found = some_bit (get_or bits k 0) small some in
    (8 * k + found.0, (omega arith, omega arith, HasBit-in_byte bits k found.0 found.1 found.2))
