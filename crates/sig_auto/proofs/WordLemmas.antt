-- The words of a sequence's tree are the files in which the sequence stands.
use Rattle.sig_auto.proofs.Common.{◌≡◌, ◌⊎◌, ◌↔◌, ℕ, ◌<◌, List, [], ◌∷◌, ◌++◌, length, refl, sym, ap, subst, ◌∙◌, inl, inr, arith, append_assoc, Contains}
use Rattle.sig_auto.proofs.Common.{slice_index, cases_order, Contains-append_cases, Contains-append_left, Contains-append_right, Contains-push}
use Rattle.sig_auto.proofs.Common.{Contains-push_cases, Class, Outside, Within, above, below, Tree, Slot, Then, alternatives_tree, atom_tree, atoms_tree}
use Rattle.sig_auto.proofs.Common.{back_tree, bracket_tree, front_tree, item_tree, items_tree, rows_tree, whole_tree, TreeWord, IsBytes, IsBefore-cases}
use Rattle.sig_auto.proofs.Common.{IsBefore-either, IsBefore-lower, IsUpTo-before, IsUpTo-first, IsUpTo-same, not_before_itself, Atom, Item, AlternativesSound}
use Rattle.sig_auto.proofs.Common.{AtomsSound, IsExpression, ItemSound, ItemsSound, RangeSound, AlternativeWord, IsBefore, IsBytesOf, IsUpTo, Lang, PartWord}
use Rattle.sig_auto.proofs.Common.{Word, Position, SequenceView, Cut, Stands, StandsAt, IsSequence}
use Rattle.sig_auto.proofs.ByteLemmas.{IsBytes-nil, IsBytes-cons, IsBytes-head, IsBytes-left, IsBytes-right}
use Rattle.sig_auto.proofs.RowLemmas.{above_is, below_is, between_is, rows_append}
use Rattle.sig_expr.specs.declared.item.Atom.TheVariants as atom
use Rattle.sig_expr.specs.declared.item.Item.TheVariants as item
use Rattle.sig_table.specs.declared.position.Position.TheVariants as position

one_byte : (b : ℕ) → b < 256 → IsBytesOf 1 (b ∷ [])
one_byte b h = (refl, IsBytes-cons b [] h IsBytes-nil)

-- a word of one byte
of_one : (w : List ℕ) → IsBytesOf 1 w → (b : ℕ) × (w ≡ b ∷ []) × (b < 256)
of_one [] h = let len = h.0 in absurd (omega arith)
of_one (b ∷ []) h = (b, refl, IsBytes-head b [] h.1)
of_one (b ∷ d ∷ w) h = let len = h.0 in absurd (omega arith)

-- an end of one byte
single : (a : List ℕ) → length a ≡ 1 → a ≡ slice_index a 0 ∷ []
single [] h = absurd (omega arith)
single (x ∷ []) h = refl
single (x ∷ y ∷ a) h = absurd (omega arith)

one_range : (x y : ℕ) (w : List ℕ) → y < 256 → TreeWord (Slot (Within x y)) w ↔ (IsBytesOf 1 w × IsUpTo (x ∷ []) w × IsUpTo w (y ∷ []))
one_range x y w byte = grind (arith, one_byte, of_one w, cases_order, IsUpTo-same, IsUpTo-before, IsBefore-lower, IsUpTo-first)

one_not_range : (x y : ℕ) (w : List ℕ) → TreeWord (Slot (Outside x y)) w ↔ (IsBytesOf 1 w × (IsBefore w (x ∷ []) ⊎ IsBefore (y ∷ []) w))
one_not_range x y w = grind (arith, one_byte, IsBefore-lower y, of_one w, IsBefore-cases)

by_bracket : (a : List ℕ) (one : Class) (rows : List (List Class)) (w : List ℕ) (P : Type 0) → (length a ≡ 1 → TreeWord (Slot one) w ↔ P)
    → TreeWord (rows_tree rows) w ↔ P → TreeWord (bracket_tree a one rows) w ↔ P
by_bracket a one rows w P f g = grind arith

not_word : (a w : List ℕ) → IsBytes a → TreeWord (atom_tree (atom.Not a)) w ↔ PartWord (atom.Not a) w
not_word a w bytes = grind (arith, by_bracket, single, rows_append, below_is, not_before_itself, above_is, IsBefore-either, one_byte, of_one, cases_order)

not_range_word : (a b w : List ℕ) → RangeSound a b → TreeWord (atom_tree (atom.NotRange a b)) w ↔ PartWord (atom.NotRange a b) w
not_range_word a b w sound =
    by_bracket a (Outside (slice_index a 0) (slice_index b 0)) (below a ++ above b) w (PartWord (atom.NotRange a b) w)
    (λ one.
    let other : length b ≡ 1 = sym sound.same_length ∙ one in
    let here = one_not_range (slice_index a 0) (slice_index b 0) w in
    let is_a = single a one in
    let is_b = single b other in (
      λ h. (let k = here.0 h in (
        rw one k.0,
        elim k.1 [
          | inl before ↦ inl (subst (IsBefore w) (sym is_a) before)
          | inr after ↦
              inr (subst (λ (e : List ℕ). IsBefore e w) (sym is_b) after)
        ],
      )),
      λ h. here.1 (
        rw one at h.0,
        elim h.1 [
          | inl before ↦ inl (subst (IsBefore w) is_a before)
          | inr after ↦
              inr (subst (λ (e : List ℕ). IsBefore e w) is_b after)
        ],
      ),
    )) (
      λ h. grind (arith, rows_append, below_is, above_is),
      λ h. grind (arith, rows_append, below_is, above_is),
    )

byte_word : (b : ℕ) (w : List ℕ) → TreeWord (atom_tree (atom.Byte b)) w ↔ PartWord (atom.Byte b) w
byte_word b w = grind arith

-- an alternative
pub atoms_is : (ps : List Atom) (w : List ℕ) → AtomsSound ps → TreeWord (atoms_tree ps) w ↔ AlternativeWord ps w
atoms_is [] w sound = (λ h. h, λ h. h)
atoms_is (p ∷ ps) w sound = grind (arith, atoms_is ps, byte_word, not_word, not_range_word, by_bracket, one_range, single, between_is, IsBytes-head)

-- some of the alternatives has the word
abbrev pub SomeWord : List (List Atom) → List ℕ → Type 0
SomeWord alternatives w = (alternative : List Atom) × Contains alternatives alternative × AlternativeWord alternative w

SomeWord-later : (a : List Atom) (rest : List (List Atom)) (w : List ℕ) → SomeWord rest w → SomeWord (a ∷ rest) w
SomeWord-later a rest w h = (h.0, Contains-append_right (a ∷ []) rest h.0 h.1, h.2)

-- one of the alternatives
pub alternatives_is : (alternatives : List (List Atom)) (w : List ℕ) → AlternativesSound alternatives → TreeWord (alternatives_tree alternatives) w
    ↔ SomeWord alternatives w
alternatives_is [] w sound = (λ h. absurd h, λ h. (let below = h.1.1 in absurd (omega arith)))
alternatives_is (a ∷ rest) w sound = grind (
  arith,
  atoms_is,
  SomeWord-later,
  alternatives_is rest w sound.1,
  Contains-append_left,
  Contains-push,
  Contains-append_cases,
  Contains-push_cases,
)

-- an item
pub item_is : (i : Item) (w : List ℕ) → ItemSound i → TreeWord (item_tree i) w ↔ Word i w
item_is (item.Byte b) w sound = byte_word b w
item_is item.Any w sound = grind (arith, one_byte, of_one)
item_is (item.Gap min max) w sound = (λ h. h, λ h. h)
item_is (item.Alt alternatives) w sound = alternatives_is alternatives w sound.0
item_is (item.Range a b) w sound = grind (arith, by_bracket, one_range, single, between_is, IsBytes-head)
item_is (item.Not a) w sound = not_word a w sound.bytes
item_is (item.NotRange a b) w sound = not_range_word a b w sound.0

-- a word of the items, and then of what is behind them
abbrev pub Behind : List Item → Tree → List ℕ → Type 0
Behind is last w = (u v : List ℕ) × (w ≡ u ++ v) × Lang is u × TreeWord last v

of_items : (is : List Item) (last : Tree) (w : List ℕ) → ItemsSound is → TreeWord (items_tree is last) w → Behind is last w
of_items [] last w sound h = ([], w, refl, refl, h)
of_items (i ∷ is) last w sound h =
    let one = (item_is i h.0 sound.0).0 h.3 in
    let r = of_items is last h.1 sound.1 h.4 in
    (h.0 ++ r.0, r.1, h.2 ∙ ap (λ l. h.0 ++ l) r.2 ∙ sym (append_assoc h.0 r.0 r.1), (h.0, r.0, refl, one, r.3), r.4)

items_word : (is : List Item) (last : Tree) (u v : List ℕ) → ItemsSound is → Lang is u → TreeWord last v → TreeWord (items_tree is last) (u ++ v)
items_word [] last u v sound h k = rw h k
items_word (i ∷ is) last u v sound h k = grind (arith, append_assoc, item_is i h.0 sound.0, items_word is last h.1 v sound.1 h.4 k)

-- the file's front, a word of the items, and the file's back
abbrev CutBy : Tree → List Item → Tree → List ℕ → Type 0
CutBy front items back file = (c : Cut items file) × TreeWord front c.front × TreeWord back c.back

of_whole : (front : Tree) (items : List Item) (back : Tree) (file : List ℕ) → IsExpression items → TreeWord (Then front (items_tree items back)) file
    → CutBy front items back file
of_whole front items back file e h =
    let r = of_items items back h.1 e.sound h.4 in
    (record { front = h.0; word = r.0; back = r.1; cut = h.2 ∙ ap (λ l. h.0 ++ l) r.2 ∙ sym (append_assoc h.0 r.0 r.1); is_word = r.3 }, h.3, r.4)

whole_word : (front : Tree) (items : List Item) (back : Tree) (file : List ℕ) → IsExpression items → CutBy front items back file
    → TreeWord (Then front (items_tree items back)) file
whole_word front items back file e h = grind (arith, append_assoc, items_word items back)

-- what is before the word and behind it, in a file of bytes
front_bytes : (items : List Item) (file : List ℕ) (c : Cut items file) → IsBytes file → IsBytes c.front
front_bytes items file c h = IsBytes-left c.front c.word (IsBytes-left (c.front ++ c.word) c.back (subst IsBytes c.cut h))

back_bytes : (items : List Item) (file : List ℕ) (c : Cut items file) → IsBytes file → IsBytes c.back
back_bytes items file c h = IsBytes-right (c.front ++ c.word) c.back (subst IsBytes c.cut h)

by_place : (p : Position) (items : List Item) (file : List ℕ) → IsExpression items → IsBytes file
    → TreeWord (Then (front_tree p) (items_tree items (back_tree p))) file ↔ StandsAt p items file
by_place (position.Bof min max) items file e bytes = (
  λ h. (let r = of_whole (front_tree (position.Bof min max)) items (back_tree (position.Bof min max)) file e h in (r.0, r.1.1, r.1.2)),
  λ h. whole_word (front_tree (position.Bof min max)) items (back_tree (position.Bof min max)) file e
      (h.0, (front_bytes items file h.0 bytes, h.1, h.2), (back_bytes items file h.0 bytes, omega arith, tt)),
)
by_place (position.Eof min max) items file e bytes = (
  λ h. (let r = of_whole (front_tree (position.Eof min max)) items (back_tree (position.Eof min max)) file e h in (r.0, r.2.1, r.2.2)),
  λ h. whole_word (front_tree (position.Eof min max)) items (back_tree (position.Eof min max)) file e
      (h.0, (front_bytes items file h.0 bytes, omega arith, tt), (back_bytes items file h.0 bytes, h.1, h.2)),
)
by_place position.Variable items file e bytes = (
  λ h. (of_whole (front_tree position.Variable) items (back_tree position.Variable) file e h).0,
  λ c. whole_word (front_tree position.Variable) items (back_tree position.Variable) file e
      (c, (front_bytes items file c bytes, omega arith, tt), (back_bytes items file c bytes, omega arith, tt)),
)

-- a file of bytes is a word of the whole tree exactly where the sequence stands in it
pub word_is_unfolded : (s : SequenceView) (file : List ℕ) → IsSequence s → IsBytes file → TreeWord (whole_tree s) file ↔ Stands s file
word_is_unfolded s file h bytes = by_place s.position s.items file h.expression bytes
