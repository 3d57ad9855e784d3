-- Runs of the position automaton over a file.
use Rattle.std.specs.Prelude.{◌≡◌, ◌↔◌, ◌<◌, ◌≤◌, ℕ, List, [], ◌∷◌, ◌++◌, ⊤}
use Rattle.sig_auto.specs.Trees.{Tree}
use Rattle.sig_auto.specs.TreeSlots.{Takes, slots_of}
use Rattle.sig_auto.specs.Tracks.{Accepting, Follows}
use Rattle.sig_bits.specs.BitSets.{HasBit}

-- from state p these states come on these bytes: each follows the one before, and takes its byte
abbrev pub Steps : Tree → ℕ → List ℕ → List ℕ → Type 0
Steps tree p [] [] = ⊤
Steps tree p [] (q ∷ states) = ⊥
Steps tree p (byte ∷ bytes) [] = ⊥
Steps tree p (byte ∷ bytes) (q ∷ states) = Follows tree p q × Takes tree q byte × Steps tree q bytes states

-- a run of the file: the start, and then a state for each byte
abbrev pub Run : Tree → List ℕ → List ℕ → Type 0
Run tree file [] = ⊥
Run tree file (p ∷ states) = (p ≡ 0) × Steps tree p file states

-- some run of the file ends in an accepting state
pub record Accepts (tree : Tree) (file : List ℕ) : Type 0 where
  pub front : List ℕ
  pub last : ℕ
  pub run : Run tree file (front ++ last ∷ [])
  pub accepting : Accepting tree last

-- some run of the file ends in this state
pub record EndsIn (tree : Tree) (file : List ℕ) (q : ℕ) : Type 0 where
  pub front : List ℕ
  pub run : Run tree file (front ++ q ∷ [])

-- some run of the file goes on to q, which takes the byte
abbrev pub GoesOnTo : Tree → List ℕ → ℕ → ℕ → Type 0
GoesOnTo tree file byte q = (p : ℕ) × EndsIn tree file p × Follows tree p q × Takes tree q byte

-- the set has the states in which the runs of the file end, and no others
abbrev pub IsSetOf : Tree → List ℕ → List ℕ → Type 0
IsSetOf tree set file = (q : ℕ) → HasBit set q ↔ EndsIn tree file q

-- q follows p and takes the byte
abbrev pub FollowsOn : Tree → ℕ → ℕ → ℕ → Type 0
FollowsOn tree p byte q = Follows tree p q × Takes tree q byte

-- some state follows p and takes the byte
abbrev pub LeadsOn : Tree → ℕ → ℕ → Type 0
LeadsOn tree p byte = (q : ℕ) × Follows tree p q × Takes tree q byte

-- the same states follow p on both bytes
abbrev pub LeadsAlike : Tree → ℕ → ℕ → ℕ → Type 0
LeadsAlike tree p a b = (q : ℕ) → FollowsOn tree p a q ↔ FollowsOn tree p b q

-- q follows a state of the set and takes the byte
abbrev pub IsStepOf : Tree → List ℕ → ℕ → ℕ → Type 0
IsStepOf tree set byte q = (p : ℕ) × HasBit set p × Follows tree p q × Takes tree q byte

-- some state of the set is accepting
abbrev pub HasAccepting : Tree → List ℕ → Type 0
HasAccepting tree set = (p : ℕ) × HasBit set p × Accepting tree p

-- each slot takes both bytes or neither
abbrev pub TakesAlike : Tree → ℕ → ℕ → Type 0
TakesAlike tree a b = (q : ℕ) → 0 < q → q ≤ slots_of tree → (Takes tree q a ↔ Takes tree q b)
