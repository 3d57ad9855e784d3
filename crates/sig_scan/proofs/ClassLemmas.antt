-- The bits of a byte that two sets have.
use Rattle.sig_scan.proofs.Common.{◌≡◌, ◌↔◌, ℕ, ◌/◌, ◌%◌, ◌<◌, List, length, get_or, bit_and, arith, get_or_past, bit_at_and, bit_at-lt, HasBit}

-- bytes of which the common bits are kept one by one have the bits of both
pub HasBit-common : (common old src : List ℕ) → length common ≡ length src → length old ≡ length src →
    ((k : ℕ) → k < length src → get_or common k 0 ≡ bit_and (get_or old k 0) (get_or src k 0)) → (i : ℕ) → HasBit common i ↔ (HasBit old i × HasBit src i)
unfolding HasBit
HasBit-common common old src len len' each i =
    grind (
      arith,
      bit_at_and (get_or old (i / 8) 0) (get_or src (i / 8) 0) (i % 8),
      bit_at-lt (get_or old (i / 8) 0) (i % 8),
      bit_at-lt (get_or src (i / 8) 0) (i % 8),
      get_or_past common,
      get_or_past old,
      get_or_past src,
      each (i / 8),
    )
