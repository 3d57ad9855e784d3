-- The cells of a sequence, made from the first to the last.
use Rattle.sig_auto.proofs.Common.{◌≡◌, ℕ, zero, suc, ◌+◌, ◌<◌, ◌≤◌, List, [], ◌∷◌, drop, get_or, length, sym, subst, arith, Tree, Then, back_tree, item_tree}
use Rattle.sig_auto.proofs.Common.{items_tree, whole_tree, slots_of, Item, ItemSound, ItemsSound, IsSequence, SequenceView, Cell, Puts, cells_in}
use Rattle.sig_auto.proofs.WholeLemmas.{whole_slots}
use Rattle.sig_auto.proofs.CellLemmas.{cells_few}
use Rattle.sig_auto.proofs.BuildLemmas.{Comes, comes_then, part_room, puts_length}
use Rattle.sig_auto.proofs.JoinLemmas.{drop_past, here_of}
use Rattle.sig_auto.proofs.ShapeLemmas.{mid_inner, mid_left, mid_right}

-- the cells of these are still to come
pub record Makes (s : SequenceView) (rest : Tree) (cells : List Cell) (slots : ℕ) : Type 0 where
  pub comes : Comes (whole_tree s) rest 0 0 (cells_in (whole_tree s)) [] cells slots (length cells)

makes_part : (s : SequenceView) (a b : Tree) (new next : List Cell) (slots more : ℕ) → Makes s (Then a b) new slots
    → Puts a slots (length new) (length new + cells_in a) new next more → Makes s b next more
makes_part s a b new next slots more h put =
    grind (
      arith,
      puts_length a slots (length new) (length new + cells_in a) new next more put,
      comes_then (whole_tree s) a b 0 0 (cells_in (whole_tree s)) [] new next slots (length new) more (length new + cells_in a) h.comes,
      mid_right,
      mid_left,
      mid_inner,
    )

-- an item
pub makes_item : (s : SequenceView) (items : List Item) (j : ℕ) (x : Item) (new next : List Cell) (slots more : ℕ)
    → Makes s (items_tree (drop j items) (back_tree s.position)) new slots → j < length items → x ≡ get_or items j x
    → Puts (item_tree x) slots (length new) (length new + cells_in (item_tree x)) new next more →
    Makes s (items_tree (drop (j + 1) items) (back_tree s.position)) next more
makes_item s items j x new next slots more h less is put =
    grind (arith, here_of items j x less, makes_part s (item_tree x) (items_tree (drop (j + 1) items) (back_tree s.position)) new next slots more)

pub item_room : (s : SequenceView) (items : List Item) (j : ℕ) (x : Item) (new : List Cell) (slots : ℕ) → IsSequence s
    → Makes s (items_tree (drop j items) (back_tree s.position)) new slots → j < length items → x ≡ get_or items j x → (slots + slots_of (item_tree x) ≤ 65535)
    × (length new + cells_in (item_tree x) ≤ 65535)
item_room s items j x new slots sequence h less is = grind (arith, here_of, cells_few, part_room, whole_slots)

pub item_is_sound : (items : List Item) (j : ℕ) (x : Item) → j < length items → x ≡ get_or items j x → ItemsSound items → ItemSound x
item_is_sound [] j x less is h = absurd (omega arith)
item_is_sound (y ∷ items) zero x less is h = subst ItemSound (sym is) h.0
item_is_sound (y ∷ items) (suc j) x less is h = item_is_sound items j x (omega arith) is h.1

-- the gap behind
pub last_room : (s : SequenceView) (items : List Item) (j : ℕ) (gap : Tree) (new : List Cell) (slots : ℕ) → IsSequence s →
    Makes s (items_tree (drop j items) (back_tree s.position)) new slots → length items ≤ j → back_tree s.position ≡ gap → (slots + slots_of gap ≤ 65535)
    × (length new + cells_in gap ≤ 65535)
last_room s items j gap new slots sequence h past is = grind (arith, cells_few (whole_tree s), drop_past items j past, whole_slots)
