-- Groups of bytes, as the list of the lead of each byte: the lowest byte of its group.
use Rattle.std.specs.Prelude.{◌≡◌, ◌↔◌, ℕ, ◌<◌, ◌≤◌, List, slice_index}
use Rattle.sig_bits.specs.ByteClasses.{Holds}
use Rattle.sig_bits.specs.declared.byte_class.ByteClass.{ByteClass}

-- the byte is one from the first to the last
abbrev pub InSpan : ℕ → ℕ → ℕ → Type 0
InSpan first last b = (first ≤ b) × (b ≤ last)

-- both bytes are in the span, or neither is
abbrev pub SameSide : ℕ → ℕ → ℕ → ℕ → Type 0
SameSide first last a b = InSpan first last a ↔ InSpan first last b

-- the bytes are in one group
abbrev pub Together : List ℕ → ℕ → ℕ → Type 0
Together leads a b = slice_index leads a ≡ slice_index leads b

-- a lead is not above its byte, and leads itself
pub record AreLeads (leads : List ℕ) : Type 0 where
  pub low : (b : ℕ) → b < 256 → slice_index leads b ≤ b
  pub own : (b : ℕ) → b < 256 → slice_index leads (slice_index leads b) ≡ slice_index leads b

-- each byte of the class is alone in its group
abbrev pub AreAlone : List ℕ → ByteClass → Type 0
AreAlone leads alone = (b : ℕ) → b < 256 → Holds alone b → (a : ℕ) → a < 256 → Together leads a b → a ≡ b
