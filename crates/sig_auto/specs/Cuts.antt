-- Bytes that lead somewhere, and cuts between bytes: what a walk over some slots adds to a class of bytes.
use Rattle.std.specs.Prelude.{◌↔◌, ◌⊎◌, ℕ, ◌+◌, ◌<◌}
use Rattle.sig_auto.specs.declared.class.Class.{Class}
use Rattle.sig_auto.specs.Classes.{InClass}
use Rattle.sig_bits.specs.ByteClasses.{Holds}
use Rattle.sig_bits.specs.declared.byte_class.ByteClass.{ByteClass}

-- the class grows by the bytes on which R has some slot
abbrev pub AddsLive : ByteClass → ByteClass → (ℕ → ℕ → Type 0) → Type 0
AddsLive old new R = (b : ℕ) → b < 256 → Holds new b ↔ (Holds old b ⊎ ((q : ℕ) × R b q))

-- the class keeps its bytes, and has each byte on which R has other slots than on the byte below
abbrev pub AddsCuts : ByteClass → ByteClass → (ℕ → ℕ → Type 0) → Type 0
AddsCuts old new R = (b : ℕ) → b + 1 < 256 → ¬ Holds new (b + 1) → (¬ Holds old (b + 1)) × ((q : ℕ) → R b q ↔ R (b + 1) q)

-- the class has both bytes or neither
abbrev pub SameSide : Class → ℕ → ℕ → Type 0
SameSide c a b = InClass c a ↔ InClass c b
