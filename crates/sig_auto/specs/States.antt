-- What comes behind a state, and the states that follow it on a byte.
use Rattle.std.specs.Prelude.{ℕ, ◌≤◌, ◌↔◌, List, ◌++◌, drop, IfSome}
use Rattle.sig_auto.specs.declared.behind.Behind.{Behind}
use Rattle.sig_auto.specs.Behind.{IsBehind, IsCellOf, LiesBehind}
use Rattle.sig_auto.specs.Taken.{own_taken, taken_first}
use Rattle.sig_auto.specs.Tracks.{Follows}
use Rattle.sig_auto.specs.Trees.{whole_tree}
use Rattle.sig_auto.specs.TreeSlots.{slots_of}
use Rattle.sig_table.specs.Tables.{IsSequence}
use Rattle.sig_table.specs.Views.{SequenceView}
pub use Rattle.sig_auto.specs.Cells.{cells_of_sequence}

-- p is a state of the sequence, and this is what comes behind it
pub record ComesBehind (s : SequenceView) (p : ℕ) (b : Behind) : Type 0 where
  pub sequence : IsSequence s
  pub state : p ≤ slots_of (whole_tree s)
  pub few : slots_of (whole_tree s) ≤ 65535
  pub is : IsBehind (cells_of_sequence s) p b
  pub order : IfSome b.own (λ q. LiesBehind q (drop b.enters (cells_of_sequence s)))
  pub cell : IfSome b.own (λ q. IsCellOf (cells_of_sequence s) q b.cell)

-- where the one comes behind a state of a sequence, and the other behind another, the same states follow both
abbrev pub HaveSameSuccessors : Behind → Behind → Type 0
HaveSameSuccessors one other = (s : SequenceView) (p q : ℕ) → ComesBehind s p one → ComesBehind s q other
    → (next : ℕ) → Follows (whole_tree s) p next ↔ Follows (whole_tree s) q next

-- the states that follow on the byte: the own next slot first, and then those that are entered
unfoldable pub followers : SequenceView → Behind → ℕ → List ℕ
followers s b byte = own_taken (cells_of_sequence s) b.own byte ++ taken_first byte (drop b.enters (cells_of_sequence s))
