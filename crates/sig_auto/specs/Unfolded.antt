-- The words of a tree, and the slots that their bytes take.
use Rattle.std.specs.Prelude.{◌≡◌, ◌⊎◌, ℕ, ◌≤◌, List, [], ◌∷◌, ◌++◌, length, ⊤}
use Rattle.sig_auto.specs.Classes.{InClass}
use Rattle.sig_auto.specs.Trees.{Tree, Never, Empty, Slot, Gap, Then, Or}
use Rattle.sig_auto.specs.TreeSlots.{Takes}
use Rattle.sig_bits.specs.Bytes.{IsBytes}
use Rattle.sig_expr.specs.Words.{IsAtMost}

abbrev pub TreeWord : Tree → List ℕ → Type 0
TreeWord Never w = ⊥
TreeWord Empty w = w ≡ []
TreeWord (Slot c) w = (b : ℕ) × (w ≡ b ∷ []) × InClass c b
TreeWord (Gap min max) w = IsBytes w × (min ≤ length w) × IsAtMost max (length w)
TreeWord (Then a b) w = (u v : List ℕ) × (w ≡ u ++ v) × TreeWord a u × TreeWord b v
TreeWord (Or a b) w = TreeWord a w ⊎ TreeWord b w

-- each slot takes the byte in its place
abbrev pub TakesAll : Tree → List ℕ → List ℕ → Type 0
TakesAll tree [] [] = ⊤
TakesAll tree [] (byte ∷ bytes) = ⊥
TakesAll tree (q ∷ slots) [] = ⊥
TakesAll tree (q ∷ slots) (byte ∷ bytes) = Takes tree q byte × TakesAll tree slots bytes
