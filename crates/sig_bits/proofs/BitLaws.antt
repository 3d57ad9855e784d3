-- The laws of this crate, for the proofs of others.
use Rattle.std.proofs.Common.{◌≡◌, ◌↔◌, ⊎_elim, ℕ, ◌+◌, ◌*◌, ◌<◌, List, length, get_or, sym, ◌∙◌, arith}
use Rattle.std.specs.Int.{bit_at}
use Rattle.std.proofs.lemmas.List.{ext_get_or}
use Rattle.std.proofs.lemmas.List.Elements.{All-get_or}
use Rattle.std.proofs.lemmas.Nat.Bits.{bit_at-lt, same_from_bits_below}
use Rattle.std.proofs.lemmas.Bool.{cases_eq}
use Rattle.sig_bits.specs.BitSets.{HasBit}
use Rattle.sig_bits.specs.Bytes.{IsBytes}
use Rattle.sig_bits.proofs.BitLemmas.{HasBit-in_byte, HasBit-within, bit_in_byte}
-- a list of zeros has no bit, and a bit that is set joins the others
pub use Rattle.sig_bits.proofs.BitLemmas.{HasBit-set, zeros_have_no_bit}

-- a bit that two numbers have both or both lack
same_bit : (x y j : ℕ) → ((bit_at x j ≡ 1) ↔ (bit_at y j ≡ 1)) → bit_at x j ≡ bit_at y j
same_bit x y j h =
    let first : bit_at x j < 2 = bit_at-lt x j in
    let second : bit_at y j < 2 = bit_at-lt y j in
    ⊎_elim (λ one. one ∙ sym (h.0 one)) (λ other. ⊎_elim (λ one. h.1 one ∙ sym one) (λ neither. omega arith) (cases_eq (bit_at y j) 1))
    (cases_eq (bit_at x j) 1)

-- lists of one length with the same bits are the same bytes
pub same_bits_are_same_bytes : (a b : List ℕ) → IsBytes a → IsBytes b → length a ≡ length b → ((i : ℕ) → HasBit a i ↔ HasBit b i) → a ≡ b
same_bits_are_same_bytes a b bytes bytes' len same =
    ext_get_or 0 a b len
    (λ k within. same_from_bits_below 8 (get_or a k 0) (get_or b k 0) (All-get_or (λ x. x < 256) a k 0 within bytes)
    (All-get_or (λ x. x < 256) b k 0 (omega arith) bytes')
    (λ j below. same_bit (get_or a k 0) (get_or b k 0) j (
      λ h. bit_in_byte b k j below ((same (8 * k + j)).0 (HasBit-in_byte a k j below h)),
      λ h. bit_in_byte a k j below ((same (8 * k + j)).1 (HasBit-in_byte b k j below h)),
    )))

-- a bit stands within the list
pub bits_are_within : (bits : List ℕ) (i : ℕ) → HasBit bits i → i < 8 * length bits
bits_are_within = HasBit-within
