-- The slots that begin, end and go next to each other in the tracks of a tree, by its cases: what the code computes.
use Rattle.std.specs.Prelude.{ℕ, Bool, false, true, ◌+◌, ◌==◌, ◌&&◌, ◌||◌, nat_le, nat_lt, Option, Some, None}
use Rattle.sig_auto.specs.Trees.{Tree, Never, Empty, Slot, Gap, Then, Or}
use Rattle.sig_auto.specs.TreeSlots.{slots_of}
use Rattle.sig_table.specs.Slots.{gap_slots}

-- the empty track is one
abbrev pub is_nullable : Tree → Bool
is_nullable Never = false
is_nullable Empty = true
is_nullable (Slot c) = false
is_nullable (Gap min max) = min == 0
is_nullable (Then a b) = is_nullable a && is_nullable b
is_nullable (Or a b) = is_nullable a || is_nullable b

-- some track begins with q
abbrev pub is_first : Tree → ℕ → ℕ → Bool
is_first Never before q = false
is_first Empty before q = false
is_first (Slot c) before q = q == before + 1
is_first (Gap min max) before q = nat_lt 0 (gap_slots min max) && q == before + 1
is_first (Then a b) before q = is_first a before q || (is_nullable a && is_first b (before + slots_of a) q)
is_first (Or a b) before q = is_first a before q || is_first b (before + slots_of a) q

-- some track ends with p
abbrev pub is_last : Tree → ℕ → ℕ → Bool
is_last Never before p = false
is_last Empty before p = false
is_last (Slot c) before p = p == before + 1
is_last (Gap min max) before p = nat_lt before p && (nat_le (before + min) p && nat_le p (before + gap_slots min max))
is_last (Then a b) before p = (is_last a before p && is_nullable b) || is_last b (before + slots_of a) p
is_last (Or a b) before p = is_last a before p || is_last b (before + slots_of a) p

-- the last slot of a gap with no greatest length follows itself
abbrev pub loops : Option ℕ → Bool
loops None = true
loops (Some max) = false

-- in some track q stands directly behind p
abbrev pub follows : Tree → ℕ → ℕ → ℕ → Bool
follows Never before p q = false
follows Empty before p q = false
follows (Slot c) before p q = false
follows (Gap min max) before p q = (nat_lt before p && (nat_lt p (before + gap_slots min max) && q == p + 1)) || (loops max && (p == before + min + 1 && q == p))
follows (Then a b) before p q = follows a before p q || (follows b (before + slots_of a) p q || (is_last a before p && is_first b (before + slots_of a) q))
follows (Or a b) before p q = follows a before p q || follows b (before + slots_of a) p q
