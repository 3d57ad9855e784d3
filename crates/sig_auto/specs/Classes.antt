-- The bytes that a slot takes.
use Rattle.std.specs.Prelude.{◌≡◌, ◌⊎◌, ℕ, ◌<◌, ◌≤◌}
use Rattle.sig_auto.specs.declared.class.Class.{Class}
use Rattle.sig_auto.specs.declared.class.Class.TheVariants.{Within, Outside}

-- the byte is in the class
abbrev pub InClass : Class → ℕ → Type 0
InClass (Within first last) b = (first ≤ b) × (b ≤ last)
InClass (Outside first last) b = (b < 256) × ((b < first) ⊎ (last < b))

-- all bytes
abbrev pub any : Class
any = Within 0 255

-- this byte alone
abbrev pub only : ℕ → Class
only b = Within b b

-- the two bytes that the class is spelled with
abbrev pub IsSpelled : Class → ℕ → ℕ → Type 0
IsSpelled (Within first last) one two = (one ≡ first) × (two ≡ last)
IsSpelled (Outside first last) one two = (one ≡ first) × (two ≡ last)
