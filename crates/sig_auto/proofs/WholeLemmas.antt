-- The tree of a sequence has no slot in vain, and as many slots as are counted.
use Rattle.sig_auto.proofs.Common.{◌≡◌, ℕ, ◌+◌, ◌-◌, ◌*◌, ◌<◌, Bool, true, false, nat_lt, ◌&&◌, cond, List, [], ◌∷◌, ◌++◌, length, refl, sym, ap, ◌∙◌, inl}
use Rattle.sig_auto.proofs.Common.{arith, length-append, mul-suc, mul-zero, eq-eqb, lt-ltb, ne_eqb, sum_by, ⊤, sum_by-cons, Class, Within, above, behind, below}
use Rattle.sig_auto.proofs.Common.{between, lower_at, only_these, rest, upper_at, Tree, alternatives_tree, atom_tree, atoms_tree, back_tree, bracket_tree}
use Rattle.sig_auto.proofs.Common.{item_tree, items_tree, row_tree, rows_tree, whole_tree, slots_of, HasTrack, IsTrim, IsBytes, IsBefore-cases, leaves_no_all}
use Rattle.sig_auto.proofs.Common.{Atom, Item, are_all, AlternativesSound, AtomSound, AtomsSound, ItemSound, ItemsSound, IsBefore, SequenceView, above_rows}
use Rattle.sig_auto.proofs.Common.{atom_slots, below_rows, between_rows, bracket_slots, item_slots, slot_count, IsSequence}
use Rattle.sig_auto.proofs.ByteLemmas.{IsBytes-head, IsBytes-tail}
use Rattle.sig_auto.proofs.RowLemmas.{split_rows}
use Rattle.sig_expr.specs.declared.item.Atom.TheVariants as atom
use Rattle.sig_expr.specs.declared.item.Item.TheVariants as item

-- each row has so many classes
abbrev pub Long : ℕ → List (List Class) → Type 0
Long n [] = ⊤
Long n (r ∷ rs) = (length r ≡ n) × Long n rs

pub Long-append : (n : ℕ) (rs ss : List (List Class)) → Long n rs → Long n ss → Long n (rs ++ ss)
Long-append n [] ss h k = k
Long-append n (r ∷ rs) ss h k = (h.0, Long-append n rs ss h.1 k)

Long-behind : (b n m : ℕ) (rs : List (List Class)) → m ≡ n + 1 → Long n rs → Long m (behind b rs)
Long-behind b n m [] e h = tt
Long-behind b n m (r ∷ rs) e h = let len = h.0 in (omega arith, Long-behind b n m rs e h.1)

length_rest : (xs : List ℕ) → length (rest xs) ≡ length xs
length_rest [] = refl
length_rest (x ∷ xs) = let more = length_rest xs in omega arith

length_only : (xs : List ℕ) → length (only_these xs) ≡ length xs
length_only [] = refl
length_only (x ∷ xs) = let more = length_only xs in omega arith

length_behind : (b : ℕ) (rs : List (List Class)) → length (behind b rs) ≡ length rs
length_behind b [] = refl
length_behind b (r ∷ rs) = let more = length_behind b rs in omega arith

length_if : (t : Bool) (r : List Class) → length (cond t (r ∷ []) []) ≡ cond t 1 0
length_if true r = refl
length_if false r = refl

-- the slots of a row and of rows
slots_row : (cs : List Class) → slots_of (row_tree cs) ≡ length cs
slots_row [] = refl
slots_row (c ∷ cs) = let more = slots_row cs in omega arith

slots_rows : (n : ℕ) (rs : List (List Class)) → Long n rs → slots_of (rows_tree rs) ≡ n * length rs
slots_rows n [] h = sym (mul-zero n)
slots_rows n (r ∷ rs) h = grind (arith, slots_row r, mul-suc, slots_rows n rs h.1)

-- the rows of the words before an end, after an end, and between two
pub long_below : (xs : List ℕ) → Long (length xs) (below xs)
long_below [] = tt
long_below (x ∷ xs) = grind (
  arith,
  length_rest xs,
  Long-append (length (x ∷ xs)) (lower_at x xs) (behind x (below xs)),
  Long-behind x (length xs),
  long_below xs,
)

pub long_above : (xs : List ℕ) → Long (length xs) (above xs)
long_above [] = tt
long_above (x ∷ xs) = grind (
  arith,
  length_rest xs,
  Long-append (length (x ∷ xs)) (behind x (above xs)) (upper_at x xs),
  Long-behind x (length xs),
  long_above xs,
)

length_below : (xs : List ℕ) → length (below xs) ≡ below_rows xs
length_below [] = refl
length_below (x ∷ xs) =
    let both = length-append (lower_at x xs) (behind x (below xs)) in
    let first = length_if (nat_lt 0 x) (Within 0 (x - 1) ∷ rest xs) in
    let others = length_behind x (below xs) in
    let more = length_below xs in
    let count = sum_by-cons (λ b. cond (nat_lt 0 b) 1 0) x xs in
    cc

length_above : (xs : List ℕ) → length (above xs) ≡ above_rows xs
length_above [] = refl
length_above (x ∷ xs) =
    let both = length-append (behind x (above xs)) (upper_at x xs) in
    let last = length_if (nat_lt x 255) (Within (x + 1) 255 ∷ rest xs) in
    let others = length_behind x (above xs) in
    let more = length_above xs in
    let count = sum_by-cons (λ b. cond (nat_lt b 255) 1 0) x xs in
    omega arith

long_split : (x y : ℕ) (xs ys : List ℕ) → length xs ≡ length ys → Long (length (x ∷ xs)) (split_rows x y xs ys)
long_split x y xs ys same = grind (arith, length_rest, length_only, Long-append, Long-behind, long_above, long_below)

pub long_between : (xs ys : List ℕ) → length xs ≡ length ys → Long (length xs) (between xs ys)
long_between [] ys h = tt
long_between (x ∷ xs) [] h = tt
long_between (x ∷ xs) (y ∷ ys) h = grind (
  arith,
  split_rows x y xs ys,
  Long-behind x (length xs) (length (x ∷ xs)) (between xs ys),
  long_split x y xs ys,
  long_between xs ys,
)

length_between : (xs ys : List ℕ) → length (between xs ys) ≡ between_rows xs ys
length_between [] ys = refl
length_between (x ∷ xs) [] = refl
length_between (x ∷ xs) (y ∷ ys) = grind (arith, split_rows, length_behind, length_between xs ys, length-append, length_above, length_if, length_below)

pub slots_between : (xs ys : List ℕ) → length xs ≡ length ys → slots_of (rows_tree (between xs ys)) ≡ length xs * between_rows xs ys
slots_between xs ys h = slots_rows (length xs) (between xs ys) (long_between xs ys h) ∙ ap (λ n. length xs * n) (length_between xs ys)

slots_outside : (xs ys : List ℕ) → length xs ≡ length ys → slots_of (rows_tree (below xs ++ above ys)) ≡ length xs * (below_rows xs + above_rows ys)
slots_outside xs ys h =
    grind (
      arith,
      slots_rows (length xs) (below xs ++ above ys),
      Long-append (length xs) (below xs) (above ys) (long_below xs),
      long_below xs,
      long_above ys,
      length-append,
      length_below xs,
      length_above ys,
    )

-- a row has a track, and rows have one where there is one
row_trim : (cs : List Class) → IsTrim (row_tree cs) × HasTrack (row_tree cs)
row_trim [] = (tt, tt)
row_trim (c ∷ cs) = let more = row_trim cs in ((tt, more.0, tt, more.1), (tt, more.1))

rows_trim : (rs : List (List Class)) → IsTrim (rows_tree rs)
rows_trim [] = tt
rows_trim (r ∷ rs) = ((row_trim r).0, rows_trim rs)

rows_track : (rs : List (List Class)) → 0 < length rs → HasTrack (rows_tree rs)
rows_track [] h = absurd (omega arith)
rows_track (r ∷ rs) h = inl (row_trim r).1

-- where a byte can be lowered, a row is before the end; where one can be raised, a row is after it
some_below : (xs : List ℕ) → are_all 0 xs ≡ false → 0 < length (below xs)
unfolding are_all
some_below [] h = absurd (cc)
some_below (x ∷ xs) h = grind (arith, length-append, length_if, eq-eqb, length_behind, some_below xs)

some_above : (xs : List ℕ) → IsBytes xs → are_all 255 xs ≡ false → 0 < length (above xs)
unfolding are_all
some_above [] bytes h = absurd (cc)
some_above (x ∷ xs) bytes h =
    grind (
      arith,
      length-append,
      length_if (nat_lt x 255) (Within (x + 1) 255 ∷ rest xs),
      IsBytes-head x xs bytes,
      eq-eqb,
      IsBytes-tail x xs bytes,
      length_behind x (above xs),
      some_above xs (IsBytes-tail x xs bytes),
    )

some_other : (xs : List ℕ) → 0 < length xs → 0 < length (below xs ++ above xs)
some_other [] h = absurd (omega arith)
some_other (x ∷ xs) h = grind (arith, length-append, length_if, lt-ltb)

some_outside : (a b : List ℕ) → IsBytes b → (x y : Bool) → are_all 0 a ≡ x → are_all 255 b ≡ y → (x && y) ≡ false → 0 < length (below a ++ above b)
some_outside a b bytes false y low high h = grind (arith, length-append, some_below a low)
some_outside a b bytes true false low high h = grind (arith, length-append, some_above b bytes high)
some_outside a b bytes true true low high h = absurd (cc)

pub some_between : (xs ys : List ℕ) → length xs ≡ length ys → IsBefore xs ys → 0 < length (between xs ys)
some_between [] [] same order = absurd (cc)
some_between [] (y ∷ ys) same order = absurd (omega arith)
some_between (x ∷ xs) [] same order = absurd (cc)
some_between (x ∷ xs) (y ∷ ys) same order = grind (
  arith,
  IsBefore-cases,
  ne_eqb,
  split_rows,
  eq-eqb,
  length_behind,
  some_between xs ys,
  length-append,
  length_above,
  length_if,
  length_below,
)

-- a tree of this many slots, which has a track, and no slot in vain
record IsSound (tree : Tree) (n : ℕ) : Type 0 where
  slots : slots_of tree ≡ n
  trim : IsTrim tree
  track : HasTrack tree

bracket_sound : (a : List ℕ) (one : Class) (rows : List (List Class)) (n : ℕ) → slots_of (rows_tree rows) ≡ length a * n → 0 < length rows
    → IsSound (bracket_tree a one rows) (bracket_slots (length a) n)
bracket_sound a one rows n h some = grind (arith, rows_trim, rows_track)

-- a part of an alternative
atom_sound : (p : Atom) → AtomSound p → IsSound (atom_tree p) (atom_slots p)
atom_sound (atom.Byte b) sound = record { slots = refl; trim = tt; track = tt }
atom_sound (atom.Range a b) sound = bracket_sound a _ (between a b) (between_rows a b) (slots_between a b sound.same_length)
    (some_between a b sound.same_length sound.order)
atom_sound (atom.Not a) sound = bracket_sound a _ (below a ++ above a) (below_rows a + above_rows a) (slots_outside a a refl) (some_other a sound.some)
atom_sound (atom.NotRange a b) sound =
    bracket_sound a _ (below a ++ above b) (below_rows a + above_rows b) (slots_outside a b sound.0.same_length)
    (some_outside a b sound.0.second.bytes (are_all 0 a) (are_all 255 b) refl refl (leaves_no_all a b sound.0.same_length sound.1))

-- an alternative
atoms_sound : (ps : List Atom) → AtomsSound ps → IsSound (atoms_tree ps) (sum_by atom_slots ps)
atoms_sound [] sound = record { slots = refl; trim = tt; track = tt }
atoms_sound (p ∷ ps) sound =
    let one = atom_sound p sound.0 in
    let more = atoms_sound ps sound.1 in
    record {
      slots = cc (one.slots, more.slots, sum_by-cons atom_slots p ps);
      trim = (one.trim, more.trim, one.track, more.track);
      track = (one.track, more.track);
    }

-- one of the alternatives
alternatives_trim : (alternatives : List (List Atom)) → AlternativesSound alternatives → IsTrim (alternatives_tree alternatives)
alternatives_trim [] sound = tt
alternatives_trim (a ∷ rest) sound = ((atoms_sound a sound.0).trim, alternatives_trim rest sound.1)

alternatives_slots : (alternatives : List (List Atom)) → AlternativesSound alternatives
    → slots_of (alternatives_tree alternatives) ≡ sum_by (λ a. sum_by atom_slots a) alternatives
alternatives_slots [] sound = refl
alternatives_slots (a ∷ rest) sound =
    let one = (atoms_sound a sound.0).slots in
    let more = alternatives_slots rest sound.1 in
    let count = sum_by-cons (λ (ps : List Atom). sum_by atom_slots ps) a rest in
    cc

alternatives_track : (alternatives : List (List Atom)) → 0 < length alternatives → AlternativesSound alternatives → HasTrack (alternatives_tree alternatives)
alternatives_track [] some sound = absurd (omega arith)
alternatives_track (a ∷ rest) some sound = inl (atoms_sound a sound.0).track

-- an item
item_sound : (i : Item) → ItemSound i → IsSound (item_tree i) (item_slots i)
item_sound (item.Byte b) sound = record { slots = refl; trim = tt; track = tt }
item_sound item.Any sound = record { slots = refl; trim = tt; track = tt }
item_sound (item.Gap min max) sound = grind arith
item_sound (item.Alt alternatives) sound = grind (arith, alternatives_slots, alternatives_trim, alternatives_track)
item_sound (item.Range a b) sound = atom_sound (atom.Range a b) sound
item_sound (item.Not a) sound = atom_sound (atom.Not a) sound
item_sound (item.NotRange a b) sound = atom_sound (atom.NotRange a b) sound

items_sound : (is : List Item) (last : Tree) (n : ℕ) → ItemsSound is → IsSound last n → IsSound (items_tree is last) (sum_by item_slots is + n)
items_sound [] last n sound h = record { slots = omega (arith, h.slots); trim = h.trim; track = h.track }
items_sound (i ∷ is) last n sound h =
    let one = item_sound i sound.0 in
    let more = items_sound is last n sound.1 h in
    let count = sum_by-cons item_slots i is in
    grind (arith, items_sound is last n sound.1 h)

whole_sound : (s : SequenceView) → IsSequence s → IsSound (items_tree s.items (back_tree s.position))
    (sum_by item_slots s.items + slots_of (back_tree s.position))
whole_sound s h = grind (arith, items_sound s.items (back_tree s.position))

-- in the tree of a sequence no slot is in vain
pub whole_is_trim : (s : SequenceView) → IsSequence s → IsTrim (whole_tree s)
whole_is_trim s h = grind (arith, whole_sound s h)

-- it has as many slots as are counted
pub whole_slots : (s : SequenceView) → IsSequence s → slots_of (whole_tree s) ≡ slot_count s
unfolding slot_count
whole_slots s h = grind (arith, whole_sound s h)

-- the tree has a track
pub whole_has_track : (s : SequenceView) → IsSequence s → HasTrack (whole_tree s)
whole_has_track s h = grind (arith, whole_sound s h)

-- a part of an alternative has one
pub atom_has_track : (p : Atom) → AtomSound p → HasTrack (atom_tree p)
atom_has_track p h = (atom_sound p h).track
