-- A number that is taken out of a set of bits.
use Rattle.sig_auto.proofs.Common.{common_steps, ◌≡◌, ◌≢◌, ◌↔◌, ◌⊎◌, ℕ, ◌-◌, ◌*◌, ◌/◌, ◌%◌, ◌^◌, ◌<◌, Bool, List, arith, bit_and, false, get_or}
use Rattle.sig_auto.proofs.Common.{get_or-set_other, get_or-set_same, length, replicate, take, ◌++◌, w8, ◌∙◌, IsTrue, take-append-le, take_all, false≢true}
use Rattle.sig_auto.proofs.Common.{bit_at_clear_other, bit_at_clear_same, HasBit, zeros_have_no_bit}
use Rattle.std.proofs.Common.{set}

pub HasBit-kept : (bits : List ℕ) (i : ℕ) (is_kept : Bool) → is_kept ≡ false → i < 8 * length bits → (j : ℕ)
    → HasBit (set bits (i / 8) (bit_and (get_or bits (i / 8) 0) (255 - (1 * 2 ^ (i % 8) % 256)))) j ↔ (HasBit bits j × ((j ≢ i) ⊎ IsTrue is_kept))
unfolding HasBit
HasBit-kept bits i is_kept not within j =
    let own = get_or-set_same bits (i / 8) in
    let others = get_or-set_other bits (i / 8) (j / 8) in
    grind (
      arith,
      common_steps,
      false≢true,
      own,
      others,
      bit_at_clear_same w8 (get_or bits (i / 8) 0) (i % 8),
      bit_at_clear_other w8 (get_or bits (i / 8) 0) (i % 8),
    )

-- one number that is added to no others
pub alone : {New : Type 0} (zeros : List ℕ) (n q i : ℕ) → zeros ≡ replicate n 0 → (New ↔ ((q ≡ i) ⊎ HasBit zeros q)) → New ↔ (q ≡ i)
alone zeros n q i none is = grind (arith, zeros_have_no_bit n q)

-- what is added to no numbers
pub added_to_none : {New Added : Type 0} (zeros : List ℕ) (n q : ℕ) → zeros ≡ replicate n 0 → (New ↔ (HasBit zeros q ⊎ Added)) → New ↔ Added
added_to_none zeros n q none is = grind (arith, zeros_have_no_bit n q)

-- what is written over a whole buffer
pub written : (to back : List ℕ) (len : ℕ) → length to ≡ len → take len (to ++ back) ≡ to
written to back len all = take-append-le len to back (omega arith) ∙ take_all len to (omega arith)
