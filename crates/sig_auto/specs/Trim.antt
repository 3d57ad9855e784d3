-- Trees in which each slot stands in some track.
use Rattle.std.specs.Prelude.{◌⊎◌, ⊤}
use Rattle.sig_auto.specs.Trees.{Tree, Never, Empty, Slot, Gap, Then, Or}
use Rattle.sig_expr.specs.Words.{IsAtMost}

-- the tree has a track
abbrev pub HasTrack : Tree → Type 0
HasTrack Never = ⊥
HasTrack Empty = ⊤
HasTrack (Slot c) = ⊤
HasTrack (Gap min max) = IsAtMost max min
HasTrack (Then a b) = HasTrack a × HasTrack b
HasTrack (Or a b) = HasTrack a ⊎ HasTrack b

-- no slot is in vain: a gap's least length is not above its greatest, and what stands before or behind something has a track
abbrev pub IsTrim : Tree → Type 0
IsTrim Never = ⊤
IsTrim Empty = ⊤
IsTrim (Slot c) = ⊤
IsTrim (Gap min max) = IsAtMost max min
IsTrim (Then a b) = IsTrim a × IsTrim b × HasTrack a × HasTrack b
IsTrim (Or a b) = IsTrim a × IsTrim b
