-- The tracks of a tree: the slots that the bytes of a word take, in order.
use Rattle.std.specs.Prelude.{◌≡◌, ◌⊎◌, ℕ, zero, suc, ◌+◌, ◌≤◌, List, [], ◌∷◌, ◌++◌, replicate, Option, Some, None}
use Rattle.sig_auto.specs.Trees.{Tree, Never, Empty, Slot, Gap, Then, Or}
use Rattle.sig_auto.specs.TreeSlots.{slots_of}

-- so many slots, from this one on
abbrev pub slots_from : ℕ → ℕ → List ℕ
slots_from first zero = []
slots_from first (suc n) = first ∷ slots_from (first + 1) n

-- the first k slots of a gap; with no greatest length the last slot takes all further bytes
abbrev pub GapTrack : ℕ → Option ℕ → ℕ → List ℕ → Type 0
GapTrack min None before t = (k : ℕ) × (t ≡ slots_from (before + 1) min ++ replicate k (before + min + 1))
GapTrack min (Some max) before t = (k : ℕ) × (min ≤ k) × (k ≤ max) × (t ≡ slots_from (before + 1) k)

-- t is a track of the tree, before which there are so many slots
abbrev pub Track : Tree → ℕ → List ℕ → Type 0
Track Never before t = ⊥
Track Empty before t = t ≡ []
Track (Slot c) before t = t ≡ (before + 1) ∷ []
Track (Gap min max) before t = GapTrack min max before t
Track (Then a b) before t = (u v : List ℕ) × (t ≡ u ++ v) × Track a before u × Track b (before + slots_of a) v
Track (Or a b) before t = Track a before t ⊎ Track b (before + slots_of a) t

-- in some track slot q stands directly behind slot p; behind the start, which is 0, q begins it
pub record Follows (tree : Tree) (p q : ℕ) : Type 0 where
  pub track : List ℕ
  pub is_track : Track tree 0 track
  pub front : List ℕ
  pub back : List ℕ
  pub next : 0 ∷ track ≡ front ++ p ∷ q ∷ back

-- some track ends with slot p; the empty track ends with the start
pub record Accepting (tree : Tree) (p : ℕ) : Type 0 where
  pub track : List ℕ
  pub is_track : Track tree 0 track
  pub front : List ℕ
  pub last : 0 ∷ track ≡ front ++ p ∷ []
