-- The bytes with which words begin: of rows, of parts and items, and of a whole tree.
use Rattle.sig_auto.proofs.Common.{◌≡◌, ◌↔◌, ◌⊎◌, ℕ, ◌+◌, ◌-◌, ◌<◌, ◌≤◌, ◌&&◌, Bool, true, false, nat_eq, cond, List, [], ◌∷◌, ◌++◌, length, drop, get_or}
use Rattle.sig_auto.proofs.Common.{IsTrue, slice_index, Option, subst, sym, ◌∙◌, refl, inl, inr, arith, and_parts, eq-eqb, eqb-true, false≢true, lt-ltb}
use Rattle.sig_auto.proofs.Common.{ltb-true, get_or-append_right, get_or-replicate, get_or_append_left, AlternativesSound, AtomSound, AtomsSound, ItemSound}
use Rattle.sig_auto.proofs.Common.{IsBefore, Atom, Item, InOrder, IsSequence, SequenceView, Position, Class, Within, Outside, Begins, BeginsOutside, InClass}
use Rattle.sig_auto.proofs.Common.{any, is_nullable, above, behind, below, between, lower_at, rest, upper_at, BeginsOn, Accepting, Follows, IsBefore-cases}
use Rattle.sig_auto.proofs.Common.{Tree, Never, Empty, Slot, Gap, Then, Or, alternatives_tree, atom_tree, atoms_tree, back_tree, bracket_tree, front_tree}
use Rattle.sig_auto.proofs.Common.{item_tree, items_tree, row_tree, rows_tree, whole_tree, Takes, class_of, classes_of, is_first, slots_of, IsTrim}
use Rattle.sig_expr.specs.declared.item.Atom.TheVariants as atom
use Rattle.sig_expr.specs.declared.item.Item.TheVariants as item
use Rattle.sig_table.specs.declared.position.Position.TheVariants as position
use Rattle.sig_auto.proofs.LocalLemmas.{IsSlot, first_or, first_then, gap_begins, is_first-slot}
use Rattle.sig_auto.proofs.RowLemmas.{between_same, between_split}
use Rattle.sig_auto.proofs.TakenLemmas.{length_classes}
use Rattle.sig_auto.proofs.TrimLemmas.{accepting_exact, follows_exact}
use Rattle.sig_auto.proofs.WholeLemmas.{Long, Long-append, long_above, long_below, long_between, some_between, whole_is_trim}

-- ---- a whole tree

-- what is so of a branch's slot, and its class, is so in the tree
class_joined : (tree a b : Tree) (before byte q : ℕ) {P A B : Type 0} → classes_of tree ≡ classes_of a ++ classes_of b → (A → IsSlot a before q)
    → (B → IsSlot b (before + slots_of a) q) → (P ↔ (A ⊎ B)) → (P × InClass (class_of tree (q - before)) byte)
    ↔ ((A × InClass (class_of a (q - before)) byte) ⊎ (B × InClass (class_of b (q - (before + slots_of a))) byte))
class_joined tree a b before byte q classes left right either = grind (arith, get_or_append_left, length_classes, get_or-append_right)

-- one branch after the other
begins_then : (a b : Tree) (before byte q : ℕ) → BeginsOn (Then a b) before byte q
    ↔ (BeginsOn a before byte q ⊎ ((((is_nullable a ≡ true) × (is_first b (before + slots_of a) q ≡ true)))
    × InClass (class_of b (q - (before + slots_of a))) byte))
begins_then a b before byte q = class_joined (Then a b) a b before byte q refl (is_first-slot a before q) (λ h. is_first-slot b (before + slots_of a) q h.1)
    (first_then a b before q)

-- one of two branches
begins_or : (a b : Tree) (before byte q : ℕ) → BeginsOn (Or a b) before byte q ↔ (BeginsOn a before byte q ⊎ BeginsOn b (before + slots_of a) byte q)
begins_or a b before byte q = class_joined (Or a b) a b before byte q refl (is_first-slot a before q) (is_first-slot b (before + slots_of a) q)
    (first_or a b before q)

-- the bytes that begin a tree are those that some first slot takes
begins_slot : (c : Class) (before b : ℕ) → Begins (Slot c) b ↔ ((q : ℕ) × BeginsOn (Slot c) before b q)
begins_slot c before b = (
  λ h. (
    before + 1,
    (
      eq-eqb (before + 1) (before + 1) refl,
      (let one : 0 ≡ before + 1 - before - 1 = omega arith in
          subst (λ i. InClass (get_or (c ∷ []) i any) b) one h),
    ),
  ),
  λ h. (let at = eqb-true h.0 (before + 1) h.1.0 in let one : h.0 - before - 1 ≡ 0 = omega arith in subst (λ i. InClass (get_or (c ∷ []) i any) b) one h.1.1),
)

begins_gap : (min : ℕ) (max : Option ℕ) (before b : ℕ) → b < 256 → Begins (Gap min max) b ↔ ((q : ℕ) × BeginsOn (Gap min max) before b q)
begins_gap min max before b small = grind (arith, gap_begins min max before, get_or-replicate, is_first-slot (Gap min max) before)

pub begins_exact : (tree : Tree) (before b : ℕ) → b < 256 → Begins tree b ↔ ((q : ℕ) × BeginsOn tree before b q)
begins_exact Never before b small = (λ h. absurd h, λ h. absurd (false≢true h.1.0))
begins_exact Empty before b small = (λ h. absurd h, λ h. absurd (false≢true h.1.0))
begins_exact (Slot c) before b small = begins_slot c before b
begins_exact (Gap min max) before b small = begins_gap min max before b small
begins_exact (Then x y) before b small = grind (arith, begins_then, begins_exact x before b small, begins_exact y (before + slots_of x) b small)
begins_exact (Or x y) before b small = grind (arith, begins_or, begins_exact x before b small, begins_exact y (before + slots_of x) b small)

-- they are those with a successor from the start
pub begins_follow : (tree : Tree) (b : ℕ) → IsTrim tree → b < 256 → Begins tree b ↔ ((q : ℕ) × Follows tree 0 q × Takes tree q b)
begins_follow tree b trim small = grind (arith, begins_exact tree 0 b small, follows_exact tree trim 0)

pub accepts_nullable : (tree : Tree) (b : Bool) → IsTrim tree → b ≡ is_nullable tree → (b ≡ true) ↔ Accepting tree 0
accepts_nullable tree b trim is = rw is (accepting_exact tree trim 0)

-- ---- rows

is_only : (x b : ℕ) → b ≡ x → InClass (Within x x) b
is_only x b h = (omega arith, omega arith)

begins_row : (c : Class) (cs : List Class) (b : ℕ) → Begins (row_tree (c ∷ cs)) b ↔ InClass c b
begins_row c cs b = (λ h. elim h [ inl own ↦ own | inr later ↦ absurd (false≢true later.0) ], λ h. inl h)

begins_rows : (rs ss : List (List Class)) (b : ℕ) → Begins (rows_tree (rs ++ ss)) b ↔ (Begins (rows_tree rs) b ⊎ Begins (rows_tree ss) b)
begins_rows [] ss b = (λ h. inr h, λ h. elim h [ inl none ↦ absurd none | inr some ↦ some ])
begins_rows (r ∷ rs) ss b = grind (arith, begins_rows rs ss b)

begins_behind : (x : ℕ) (rs : List (List Class)) (b : ℕ) → Begins (rows_tree (behind x rs)) b ↔ ((b ≡ x) × (0 < length rs))
begins_behind x [] b = (λ h. absurd h, λ h. let some = h.1 in absurd (omega arith))
begins_behind x (r ∷ rs) b = grind (arith, begins_row (Within x x) r b, is_only x b, begins_behind x rs b)

begins_if : (t : Bool) (low high b : ℕ) (xs : List ℕ) → Begins (rows_tree (cond t ((Within low high ∷ rest xs) ∷ []) [])) b
    ↔ ((t ≡ true) × (low ≤ b) × (b ≤ high))
begins_if true low high b xs = grind (arith, begins_row (Within low high) (rest xs) b)
begins_if false low high b xs = (λ h. absurd h, λ h. absurd (false≢true h.0))

begins_between : (a b : List ℕ) (c : ℕ) → length a ≡ length b → IsBefore a b → Begins (rows_tree (between a b)) c
    ↔ ((slice_index a 0 ≤ c) × (c ≤ slice_index b 0))
begins_between [] [] c same order = absurd (cc)
begins_between [] (y ∷ ys) c same order = absurd (omega arith)
begins_between (x ∷ xs) [] c same order = absurd (cc)
begins_between (x ∷ xs) (y ∷ ys) c same order = grind (
  arith,
  IsBefore-cases,
  between_split,
  some_between,
  begins_behind,
  between_same,
  begins_rows,
  begins_row,
  is_only,
  begins_if,
  ltb-true,
  lt-ltb,
)

-- ---- parts

begins_by : (t : Bool) (one : Class) (rows : List (List Class)) (b : ℕ) (P : Type 0) → (t ≡ true → InClass one b ↔ P) → (Begins (rows_tree rows) b ↔ P)
    → Begins (cond t (Slot one) (rows_tree rows)) b ↔ P
begins_by true one rows b P h k = h refl
begins_by false one rows b P h k = k

none_behind : (a : List ℕ) → length a ≡ 1 → drop 1 a ≡ []
none_behind [] h = absurd (omega arith)
none_behind (x ∷ []) h = refl
none_behind (x ∷ y ∷ xs) h = absurd (omega arith)

-- one byte outside
outside_one : (a b : List ℕ) (c : ℕ) → length a ≡ 1 → length b ≡ 1 → c < 256 → InClass (Outside (slice_index a 0) (slice_index b 0)) c ↔ BeginsOutside a b c
outside_one a b c one two small = grind (arith, none_behind a one, none_behind b two)

begins_past : (a b : List ℕ) (c : ℕ) → length a ≡ length b → 0 < length a → c < 256
    → Begins (bracket_tree a (Outside (slice_index a 0) (slice_index b 0)) (below a ++ above b)) c ↔ BeginsOutside a b c
begins_past a b c same some small =
    grind (
      arith,
      begins_by (nat_eq (length a) 1) (Outside (slice_index a 0) (slice_index b 0)) (below a ++ above b) c (BeginsOutside a b c),
      eqb-true,
      outside_one a b c,
      begins_rows,
      lower_at,
      behind,
      below,
      begins_behind,
      begins_if,
      ltb-true,
      lt-ltb,
      above,
      upper_at,
    )

pub range_answer : {H : Type 0} (p : Atom) (a b x y : List ℕ) (c : ℕ) → p ≡ atom.Range a b → x ≡ a → y ≡ b → AtomSound p
    → (H ↔ ((slice_index x 0 ≤ c) × (c ≤ slice_index y 0))) → H ↔ Begins (atom_tree p) c
range_answer {H} p a b x y c is first second sound h = grind (arith, begins_by, begins_between)

pub outside_answer : {H : Type 0} (p : Atom) (a b x y : List ℕ) (c : ℕ) → p ≡ atom.NotRange a b → x ≡ a → y ≡ b → c < 256 → AtomSound p
    → (H ↔ BeginsOutside x y c) → H ↔ Begins (atom_tree p) c
outside_answer {H} p a b x y c is first second small sound h = grind (arith, begins_past)

pub not_answer : {H : Type 0} (p : Atom) (a x y : List ℕ) (c : ℕ) → p ≡ atom.Not a → x ≡ a → y ≡ a → c < 256 → AtomSound p → (H ↔ BeginsOutside x y c) → H
    ↔ Begins (atom_tree p) c
not_answer {H} p a x y c is first second small sound h = grind (arith, begins_past)

-- ---- what can be skipped

pub rows_not_nullable : (n : ℕ) (rs : List (List Class)) → 0 < n → Long n rs → is_nullable (rows_tree rs) ≡ false
rows_not_nullable n [] some h = refl
rows_not_nullable n ([] ∷ rs) some h = let none = h.0 in absurd (omega arith)
rows_not_nullable n ((c ∷ cs) ∷ rs) some h = rows_not_nullable n rs some h.1

pub atom_not_nullable : (p : Atom) → AtomSound p → is_nullable (atom_tree p) ≡ false
atom_not_nullable (atom.Byte b) sound = refl
atom_not_nullable (atom.Range a b) sound = grind (arith, rows_not_nullable, long_between)
atom_not_nullable (atom.Not a) sound = grind (arith, rows_not_nullable, Long-append, long_below, long_above)
atom_not_nullable (atom.NotRange a b) sound = grind (arith, rows_not_nullable, Long-append, long_below, long_above)

-- an alternative begins as its first part does
pub begins_atoms : (p : Atom) (ps : List Atom) (b : ℕ) → AtomSound p → Begins (atoms_tree (p ∷ ps)) b ↔ Begins (atom_tree p) b
begins_atoms p ps b sound = grind (arith, false≢true, atom_not_nullable p sound)

pub alternatives_not_nullable : (alternatives : List (List Atom)) → AlternativesSound alternatives → is_nullable (alternatives_tree alternatives) ≡ false
alternatives_not_nullable [] sound = refl
alternatives_not_nullable ([] ∷ later) sound = let some = sound.2 in absurd (omega arith)
alternatives_not_nullable ((p ∷ ps) ∷ later) sound = rw (atom_not_nullable p sound.0.0, alternatives_not_nullable later sound.1) refl

pub item_not_nullable : (i : Item) → ItemSound i → ((min : ℕ) (max : Option ℕ) → i ≡ item.Gap min max → ⊥) → is_nullable (item_tree i) ≡ false
item_not_nullable (item.Byte b) sound other = refl
item_not_nullable item.Any sound other = refl
item_not_nullable (item.Gap min max) sound other = absurd (other min max refl)
item_not_nullable (item.Alt alternatives) sound other = alternatives_not_nullable alternatives sound.0
item_not_nullable (item.Range a b) sound other = atom_not_nullable (atom.Range a b) sound
item_not_nullable (item.Not a) sound other = atom_not_nullable (atom.Not a) sound
item_not_nullable (item.NotRange a b) sound other = atom_not_nullable (atom.NotRange a b) sound

-- what can be skipped begins with any byte
nullable_begins : (i : Item) (b : ℕ) → ItemSound i → is_nullable (item_tree i) ≡ true → Begins (item_tree i) b
nullable_begins (item.Byte x) b sound h = absurd (false≢true h)
nullable_begins item.Any b sound h = absurd (false≢true h)
nullable_begins (item.Gap min max) b sound h = grind arith
nullable_begins (item.Alt alternatives) b sound h = absurd (false≢true (sym (alternatives_not_nullable alternatives sound.0) ∙ h))
nullable_begins (item.Range x y) b sound h = absurd (false≢true (sym (atom_not_nullable (atom.Range x y) sound) ∙ h))
nullable_begins (item.Not x) b sound h = absurd (false≢true (sym (atom_not_nullable (atom.Not x) sound) ∙ h))
nullable_begins (item.NotRange x y) b sound h = absurd (false≢true (sym (atom_not_nullable (atom.NotRange x y) sound) ∙ h))

-- ---- what the code tells

pub atoms_answer : {H : Type 0} (all : List Atom) (p : Atom) (ps : List Atom) (b : ℕ) → all ≡ p ∷ ps → AtomsSound all → (H ↔ Begins (atom_tree p) b) → H
    ↔ Begins (atoms_tree all) b
atoms_answer {H} all p ps b is sound h = grind (arith, atoms_tree, begins_atoms p ps b)

none_before : (position : Position) → InOrder position → (0 < slots_of (front_tree position) → ⊥) → is_nullable (front_tree position) ≡ true
none_before (position.Bof min max) order none = grind (arith, eq-eqb)
none_before (position.Eof min max) order none = absurd (none (omega arith))
none_before position.Variable order none = absurd (none (omega arith))

pub before_answer : {H : Type 0} (s : SequenceView) (position : Position) (b : ℕ) → position ≡ s.position → IsSequence s → b < 256
    → 0 < slots_of (front_tree position) → H → H ↔ ((q : ℕ) × Follows (whole_tree s) 0 q × Takes (whole_tree s) q b)
before_answer s position b is sequence small some held = grind
    (arith, begins_follow (whole_tree s) b (whole_is_trim s sequence) small, whole_is_trim s sequence)

begins_whole : (s : SequenceView) (i : Item) (is : List Item) (b : ℕ) → s.items ≡ i ∷ is → IsSequence s → (0 < slots_of (front_tree s.position) → ⊥)
    → Begins (whole_tree s) b ↔ Begins (item_tree i) b
begins_whole s i is b items sequence none = grind (arith, none_before, nullable_begins)

pub first_answer : {H : Type 0} (s : SequenceView) (position : Position) (i : Item) (is : List Item) (t : Bool) (b : ℕ) → position ≡ s.position
    → s.items ≡ i ∷ is → IsSequence s → b < 256 → (IsTrue t ↔ 0 < slots_of (front_tree position)) → t ≡ false → (H ↔ Begins (item_tree i) b) → H
    ↔ ((q : ℕ) × Follows (whole_tree s) 0 q × Takes (whole_tree s) q b)
first_answer s position i is t b at items sequence small told refused h =
    grind (arith, false≢true, begins_whole s i is b items sequence, begins_follow (whole_tree s) b (whole_is_trim s sequence) small, whole_is_trim s sequence)

pub accepts_items : (s : SequenceView) (position : Position) (items : List Item) (ends r : Bool) → position ≡ s.position → items ≡ s.items → IsSequence s
    → ends ≡ (is_nullable (front_tree position) && is_nullable (back_tree position)) → ends ≡ true
    → ((last : Tree) → is_nullable (items_tree items last) ≡ (r && is_nullable last)) → IsTrue r ↔ Accepting (whole_tree s) 0
accepts_items s position items ends r at is sequence told shown all =
    grind (arith, accepts_nullable (whole_tree s) r (whole_is_trim s sequence), whole_is_trim s sequence, false≢true)

-- items that can be skipped end with what can be
last_nullable : (items : List Item) (last : Tree) → is_nullable (items_tree items last) ≡ true → is_nullable last ≡ true
last_nullable [] last h = h
last_nullable (i ∷ items) last h = last_nullable items last (and_parts (is_nullable (item_tree i)) (is_nullable (items_tree items last)) h).1

pub accepts_ends : (s : SequenceView) (position : Position) (ends : Bool) → position ≡ s.position → IsSequence s
    → ends ≡ (is_nullable (front_tree position) && is_nullable (back_tree position)) → ends ≡ false → IsTrue ends ↔ Accepting (whole_tree s) 0
accepts_ends s position ends at sequence told refused =
    grind (
      arith,
      accepts_nullable (whole_tree s) (is_nullable (whole_tree s)) (whole_is_trim s sequence) refl,
      whole_is_trim s sequence,
      false≢true,
      last_nullable s.items (back_tree s.position),
    )
