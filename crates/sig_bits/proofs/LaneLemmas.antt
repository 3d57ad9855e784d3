-- Vectors of 32 bytes, lane by lane.
use Rattle.std.proofs.Common.{◌≡◌, ◌↔◌, ⊎_elim, ℕ, zero, suc, ◌+◌, ◌-◌, ◌%◌, ◌/◌, ◌^◌, ◌<◌, ◌≤◌, ◌≢◌, Bool, true, false, not, cond, eqb, eqb-true, List, []}
use Rattle.std.proofs.Common.{◌∷◌, length, map, get_or, replicate, refl, sym, ap, subst, ◌∙◌, arith, w8, w64}
use Rattle.std.specs.Int.{bit_at, trailing_zeros}
use Rattle.std.specs.Simd.Lanes.{zip2, mask_l, top}
use Rattle.std.proofs.lemmas.Bool.{cases_eq, cases_lt, eqb-false}
use Rattle.std.proofs.lemmas.List.{get_or-map, get_or_past, length-map}
use Rattle.std.proofs.lemmas.Nat.Bits.{bit_at-zero, bit_at_above, bit_at-trailing_zeros}
use Rattle.std.proofs.lemmas.Simd.{bit_mask_l, bitmask_splat, get_or-zip2, length-zip2, mask_l-lt, mask_l-mod}
use Rattle.sig_bits.specs.Joined.{HasLanes, IsJoined}
use Rattle.sig_bits.proofs.BitLemmas.{bit_at_rest}

-- what a comparison with zeros leaves of a lane, and its bit of the mask
abbrev pub differs : ℕ → ℕ → ℕ
differs a b = cond (not (eqb a b)) 255 0

abbrev flag : ℕ → ℕ
flag x = cond (top 7 (differs x 0)) 1 0

flag_is_zero : (x : ℕ) → (flag x ≡ 0) ↔ (x ≡ 0)
flag_is_zero x = by_test (eqb x 0) refl
  where
    by_test : (t : Bool) → eqb x 0 ≡ t → (◌≡◌ {A = ℕ} (cond (top 7 (cond (not t) 255 0)) 1 0) 0) ↔ (x ≡ 0)
    by_test true e = (λ _. eqb-true x 0 e, λ _. refl)
    by_test false e = (λ none. absurd (omega arith), λ none. absurd (eqb-false x 0 e none))

-- the mask of all lanes
abbrev mask : List ℕ → ℕ
mask lanes = mask_l (map (top 7) (zip2 differs lanes (replicate (length lanes) 0)))

joined_by_mask : (lanes : List ℕ) → IsJoined (λ k. get_or lanes k 0) 0 (length lanes) (mask lanes)
joined_by_mask [] = record { none = λ _ k low high. absurd (omega arith); some = λ ne. absurd (ne refl) }
joined_by_mask (x ∷ xs) =
    let later = joined_by_mask xs in
    let first = flag_is_zero x in
    record {
      none = λ zeros. elim [ zero ↦ λ low high. first.0 (omega arith) | suc k ↦ λ low high. later.none (omega arith) k (omega arith) (omega arith) ];
      some = λ ne. ⊎_elim
          (λ (here : x ≡ 0).
          let found = later.some (λ none. ne (omega (arith, first.1 here, none))) in
          (suc found.0, (omega arith, omega arith, found.1.2)))
          (λ there. (0, (omega arith, omega arith, there)))
          (cases_eq x 0);
    }

pub joined_of_mask : (lanes : List ℕ) → length lanes ≡ 32 → IsJoined (λ k. get_or lanes k 0) 0 32
    (mask_l (map (top 7) (zip2 differs lanes (replicate 32 0))) % 2 ^ 64)
joined_of_mask lanes len =
    let bits : length (map (top 7) (zip2 differs lanes (replicate 32 0))) ≡ 32 =
    length-map (zip2 differs lanes (replicate 32 0)) (top 7) ∙ length-zip2 differs lanes (replicate 32 0) len ∙ len in
    let whole = mask_l-mod (map (top 7) (zip2 differs lanes (replicate 32 0))) 64 (omega arith) in
    subst (IsJoined (λ k. get_or lanes k 0) 0 32) (sym whole)
    (subst (λ n. IsJoined (λ k. get_or lanes k 0) 0 n (mask_l (map (top 7) (zip2 differs lanes (replicate n 0))))) len (joined_by_mask lanes))

-- an operator on two vectors
pub HasLanes-zip2 : (f : ℕ → ℕ → ℕ) (a b : List ℕ) (g h : ℕ → ℕ) → HasLanes a g → HasLanes b h → HasLanes (zip2 f a b) (λ k. f (g k) (h k))
HasLanes-zip2 f a b g h one two =
    let len : length a ≡ length b = one.len ∙ sym two.len in
    record {
      len = length-zip2 f a b len ∙ one.len;
      each = λ k low. get_or-zip2 f a b k 0 0 0 (omega (arith, one.len)) (omega (arith, two.len)) ∙ ap (λ x. f x (get_or b k 0)) (one.each k low) ∙ ap (f (g k))
          (two.each k low);
    }

-- the lanes that stand from one place on, joined
pub joined_lanes : (lanes : List ℕ) (f : ℕ → ℕ) (from joined : ℕ) → HasLanes lanes (λ k. f (from + k)) → IsJoined (λ k. get_or lanes k 0) 0 32 joined
    → IsJoined f from (from + 32) joined
joined_lanes lanes f from joined stand h = record {
  none = λ zeros k low high.
      let same : from + (k - from) ≡ k = omega arith in
      subst (λ n. f n ≡ 0) same (sym (stand.each (k - from) (omega arith)) ∙ h.none zeros (k - from) (omega arith) (omega arith));
  some = λ ne.
      let found = h.some ne in
      (from + found.0, (omega arith, omega arith, λ none. found.1.2 (stand.each found.0 found.1.1 ∙ none)));
}

-- and one on one vector
pub HasLanes-map : (f : ℕ → ℕ) (a : List ℕ) (g : ℕ → ℕ) → HasLanes a g → HasLanes (map f a) (λ k. f (g k))
HasLanes-map f a g one = record {
  len = length-map a f ∙ one.len;
  each = λ k low. get_or-map f a k 0 0 (omega (arith, one.len)) ∙ ap f (one.each k low);
}

-- ---- the first lane that is not 0

abbrev some : ℕ → Bool
some x = not (eqb x 0)

mask_is : (lanes : List ℕ) → length lanes ≡ 32 → mask_l (map (top 7) (zip2 differs lanes (replicate 32 0))) % 2 ^ 64 ≡ mask_l (map some lanes)
mask_is lanes len = bitmask_splat w8 (λ a b. not (eqb a b)) lanes 32 0 len (omega arith)

some_is : (x : ℕ) → (◌≡◌ {A = ℕ} (cond (some x) 1 0) 1) ↔ (x ≢ 0)
some_is x = by_test (eqb x 0) refl
  where
    by_test : (t : Bool) → eqb x 0 ≡ t → (◌≡◌ {A = ℕ} (cond (not t) 1 0) 1) ↔ (x ≢ 0)
    by_test true e = (λ one _. omega arith, λ not_zero. absurd (not_zero (eqb-true x 0 e)))
    by_test false e = (λ _. eqb-false x 0 e, λ _. refl)

-- bit k is set exactly where lane k is not 0
pub bits_of_mask : (lanes : List ℕ) → length lanes ≡ 32 → (k : ℕ) → k < 32
    → (bit_at (mask_l (map (top 7) (zip2 differs lanes (replicate 32 0))) % 2 ^ 64) k ≡ 1) ↔ (get_or lanes k 0 ≢ 0)
bits_of_mask lanes len k low =
    let read : bit_at (mask_l (map (top 7) (zip2 differs lanes (replicate 32 0))) % 2 ^ 64) k ≡ cond (some (get_or lanes k 0)) 1 0 =
    ap (λ m. bit_at m k) (mask_is lanes len) ∙ bit_mask_l (map some lanes) k ∙ ap (λ (t : Bool). cond t 1 0)
    (get_or-map some lanes k 0 false (omega (arith, len))) in
    let law = some_is (get_or lanes k 0) in
    (λ one. law.0 (sym read ∙ one), λ ne. read ∙ law.1 ne)

-- and no bit stands past the lanes
pub mask_is_short : (lanes : List ℕ) → length lanes ≡ 32 → mask_l (map (top 7) (zip2 differs lanes (replicate 32 0))) % 2 ^ 64 < 2 ^ 32
mask_is_short lanes len = subst (λ m. m < 2 ^ 32) (sym (mask_is lanes len))
    (subst (λ n. mask_l (map some lanes) < 2 ^ n) (length-map lanes some ∙ len) (mask_l-lt (map some lanes)))

-- nothing is left of the mask
pub none_is_left : (numbers : List ℕ) (mask from : ℕ) → length numbers ≡ 32 → ((k : ℕ) → k < 32 → (bit_at mask k ≡ 1) ↔ (get_or numbers k 0 ≢ 0))
    → mask / 2 ^ from ≡ 0
    → (k : ℕ) → from ≤ k → get_or numbers k 0 ≡ 0
none_is_left numbers mask from len each none k low =
    ⊎_elim (λ (within : k < 32). ⊎_elim (λ zero. zero) (λ ne. absurd (zero_bit (each k within).1 ne)) (cases_eq (get_or numbers k 0) 0))
    (λ past. get_or_past numbers k 0 (omega (arith, len, past)))
    (cases_lt k 32)
  where
    zero_bit : (get_or numbers k 0 ≢ 0 → bit_at mask k ≡ 1) → get_or numbers k 0 ≢ 0 → ⊥
    zero_bit one ne =
        let same : from + (k - from) ≡ k = omega (arith, low) in
        let left : bit_at (mask / 2 ^ from) (k - from) ≡ 1 = bit_at_rest mask from (k - from) ∙ subst (λ n. bit_at mask n ≡ 1) (sym same) (one ne) in
        let here = rw none at left in
        omega (arith, bit_at-zero (k - from))

-- the lowest bit of what is left of the mask
pub first_is_left : (numbers : List ℕ) (mask from : ℕ) → length numbers ≡ 32 → ((k : ℕ) → k < 32 → (bit_at mask k ≡ 1) ↔ (get_or numbers k 0 ≢ 0))
    → mask < 2 ^ 32 → mask / 2 ^ from < 2 ^ 64 → mask / 2 ^ from ≢ 0
    → (from + trailing_zeros w64 (mask / 2 ^ from) < length numbers) × (get_or numbers (from + trailing_zeros w64 (mask / 2 ^ from)) 0 ≢ 0)
    × ((j : ℕ) → from ≤ j → j < from + trailing_zeros w64 (mask / 2 ^ from) → get_or numbers j 0 ≡ 0)
first_is_left numbers mask from len each short small ne =
    let rest : ℕ = mask / 2 ^ from in
    let t : ℕ = trailing_zeros w64 rest in
    let lowest = bit_at-trailing_zeros w64 rest (omega arith) small in
    let read : bit_at mask (from + t) ≡ 1 = sym (bit_at_rest mask from t) ∙ lowest.1 in
    let within : from + t < 32 = ⊎_elim (λ lt. lt) (λ past. omega (arith, bit_at_above mask 32 (from + t) short past)) (cases_lt (from + t) 32) in (
      omega (arith, len, within),
      (each (from + t) within).0 read,
      λ j low below. ⊎_elim (λ zero. zero)
          (λ some. absurd (
          let one : bit_at mask j ≡ 1 = (each j (omega arith)).1 some in
          let same : from + (j - from) ≡ j = omega (arith, low) in
          let left : bit_at rest (j - from) ≡ 1 = bit_at_rest mask from (j - from) ∙ subst (λ n. bit_at mask n ≡ 1) (sym same) one in
          let zero = lowest.2 (j - from) (omega arith) in
          omega arith))
          (cases_eq (get_or numbers j 0) 0),
    )

-- the lanes of the bytes from the first on
pub at_0 : (bytes lanes : List ℕ) → HasLanes lanes (λ k. get_or bytes (0 + k) 0) → (k : ℕ) → k < 32 → get_or lanes k 0 ≡ get_or bytes k 0
at_0 bytes lanes stand k low = let e : 0 + k ≡ k = omega arith in stand.each k low ∙ ap (λ n. get_or bytes n 0) e
