-- Sets of offsets as bits, and how they grow.
use Rattle.sig_scan.proofs.Common.{◌≡◌, ◌⊎◌, ℕ, List, replicate, arith, zeros_have_no_bit, GainsBits, HasBits}

-- what an empty set gains is all that it has
pub HasBits-from_gains : (P : ℕ → Type 0) (n : ℕ) (old new : List ℕ) → old ≡ replicate n 0 → GainsBits P old new → HasBits P new
HasBits-from_gains P n old new none gains = grind (arith, zeros_have_no_bit, gains.sound, gains.gained)

-- what two gains add together
pub GainsBits-more : (P Q R : ℕ → Type 0) (a b c : List ℕ) → ((o : ℕ) → P o → R o) → ((o : ℕ) → Q o → R o) → ((o : ℕ) → R o → P o ⊎ Q o) →
    GainsBits P a b → GainsBits Q b c → GainsBits R a c
GainsBits-more P Q R a b c first second both ab bc = grind (arith, first, second, both, ab.sound, ab.kept, ab.gained, bc.sound, bc.kept, bc.gained)
