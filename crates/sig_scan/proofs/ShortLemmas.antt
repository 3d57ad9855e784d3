-- The words of a sequence within its limits are short: an item has as many slots as its longest
-- word has bytes, at least.
use Rattle.sig_scan.proofs.Common.{◌≡◌, ℕ, ◌+◌, ◌≤◌, ◌<◌, Bool, cond, nat_lt, List, [], ◌∷◌, ◌++◌, length, Option, None, Some, arith, All, IfSome, count_by}
use Rattle.sig_scan.proofs.Common.{sum_by, All-cons, All-head, All-nil, All-tail, sum_by-cons, sum_by_push, IsBytes, Atom, Item, AlternativesSound, AtomSound}
use Rattle.sig_scan.proofs.Common.{AtomsSound, ItemSound, ItemsSound, IsBefore, IsBefore-cases, Position, above_rows, atom_slots, below_rows, between_rows}
use Rattle.sig_scan.proofs.Common.{bracket_slots, item_slots, slot_count, IsSequence, IsBoundedItem, item_span, longest_of, part_length, parts_length, span}
use Rattle.sig_scan.proofs.Common.{StageView, TailView, course_of, stages_of, max, min}
use Rattle.sig_expr.specs.declared.item.Atom.TheVariants as atom
use Rattle.sig_expr.specs.declared.item.Item.TheVariants as item
use Rattle.sig_table.specs.declared.position.Position.TheVariants as position
use Rattle.std.proofs.lemmas.Bool.Decides.{nat_tests}
use Rattle.sig_scan.proofs.CutLemmas.{all_but_last-All}

-- a member more
count-cons : (p : ℕ → Bool) (x : ℕ) (xs : List ℕ) → count_by p (x ∷ xs) ≡ cond (p x) 1 0 + count_by p xs
count-cons p x xs = sum_by-cons (λ x. cond (p x) 1 0) x xs

-- some row of a bracket that excludes one word
rows_around : (xs : List ℕ) → length xs ≤ below_rows xs + above_rows xs
rows_around [] = omega arith
rows_around (x ∷ xs) = grind (arith, nat_tests, rows_around xs, count-cons (λ b. nat_lt 0 b) x xs, count-cons (λ b. nat_lt b 255) x xs)

-- some row before, after and between words
rows_below : (w a : List ℕ) → length w ≡ length a → IsBefore w a → 0 < below_rows a
rows_below (x ∷ xs) (y ∷ ys) same before = grind (arith, nat_tests, IsBefore-cases x y xs ys before, rows_below xs ys, count-cons (λ b. nat_lt 0 b) y ys)
rows_below _ _ same before = absurd (grind (arith, before))

rows_above : (b w : List ℕ) → length b ≡ length w → IsBytes w → IsBefore b w → 0 < above_rows b
rows_above (x ∷ xs) (y ∷ ys) same bytes before = grind (
  arith,
  nat_tests,
  All-head (λ b. b < 256) y ys bytes,
  IsBefore-cases x y xs ys before,
  rows_above xs ys (omega arith) (All-tail (λ b. b < 256) y ys bytes),
  count-cons (λ b. nat_lt b 255) x xs,
)
rows_above _ _ same bytes before = absurd (grind (arith, before))

rows_between : (a b : List ℕ) → length a ≡ length b → IsBefore a b → 0 < between_rows a b
rows_between (x ∷ xs) (y ∷ ys) same before = grind (arith, nat_tests, IsBefore-cases x y xs ys before, rows_between xs ys)
rows_between _ _ same before = absurd (grind (arith, before))

-- a bracket has as many slots as bytes, at least
bracket_long : (n rows : ℕ) → 0 < rows → n ≤ bracket_slots n rows
bracket_long n rows some = grind (arith, nat_tests)

atom_long : (p : Atom) → AtomSound p → part_length p ≤ atom_slots p
atom_long (atom.Byte b) sound = omega arith
atom_long (atom.Range a b) sound = bracket_long (length a) (between_rows a b) (rows_between a b sound.same_length sound.order)
atom_long (atom.Not a) sound = bracket_long (length a) (below_rows a + above_rows a) (omega (arith, rows_around a, sound.some))
atom_long (atom.NotRange a b) (sound, (w, (len, word))) =
    bracket_long (length a) (below_rows a + above_rows b) (grind (arith, len, word, sound.same_length, rows_below w a, rows_above b w))

parts_long : (parts : List Atom) → AtomsSound parts → parts_length parts ≤ sum_by atom_slots parts
parts_long [] sound = omega arith
parts_long (p ∷ parts) (sound, rest) = omega (arith, atom_long p sound, parts_long parts rest, sum_by-cons part_length p parts, sum_by-cons atom_slots p parts)

alternatives_long : (all : List (List Atom)) → AlternativesSound all → longest_of all ≤ sum_by (λ a. sum_by atom_slots a) all
alternatives_long [] sound = omega arith
alternatives_long (a ∷ all) (sound, rest, some) =
    omega (arith, parts_long a sound, alternatives_long all rest, sum_by-cons (λ (a : List Atom). sum_by atom_slots a) a all)

item_long : (i : Item) → ItemSound i → IsBoundedItem i → item_span i ≤ item_slots i
item_long (item.Gap min None) sound bounded = absurd bounded
item_long (item.Alt all) sound bounded = alternatives_long all sound.0
item_long (item.Range a b) sound bounded = atom_long (atom.Range a b) sound
item_long (item.Not a) sound bounded = atom_long (atom.Not a) sound
item_long (item.NotRange a b) sound bounded = atom_long (atom.NotRange a b) sound
item_long _ sound bounded = omega arith

-- a stage is at most as long as all slots of the items
stages_of-short : (until : Option ℕ) (before later : List Item) (n : ℕ) → ItemsSound later → span before + sum_by item_slots later ≤ n
    → All (λ (t : StageView). span t.items ≤ n) (stages_of until before later)
stages_of-short until before [] n sound few = search (arith, All-cons, All-nil)
stages_of-short until before (item.Gap min None ∷ later) n (sound, rest) few =
    let slots = sum_by-cons item_slots (item.Gap min None) later in
    search (arith, All-cons, stages_of-short None [] later n rest (omega arith))
stages_of-short until before (i ∷ later) n (sound, rest) few =
    stages_of-short until (before ++ i ∷ []) later n rest (omega (arith, item_long i sound tt, sum_by_push item_span before i, sum_by-cons item_slots i later))

-- so all stages of a sequence are short
pub stages-short : (p : Position) (items : List Item) → IsSequence (record { position = p; items = items })
    → All (λ (t : StageView). span t.items ≤ 65535) (course_of (record { position = p; items = items })).stages
unfolding slot_count
stages-short (position.Bof min max) items is = let few = is.slots in stages_of-short (Some max) [] items 65535 is.expression.sound (omega arith)
stages-short (position.Eof min max) items is = let few = is.slots in
    (all_but_last-All (λ (l : List Item). span l ≤ 65535) (omega arith) (stages_of None [] items)
    (stages_of-short None [] items 65535 is.expression.sound (omega arith))).0
stages-short position.Variable items is = let few = is.slots in stages_of-short None [] items 65535 is.expression.sound (omega arith)

pub tail-short : (p : Position) (items : List Item) → IsSequence (record { position = p; items = items })
    → IfSome (course_of (record { position = p; items = items })).tail (λ (t : TailView). span t.items + t.max ≤ 65535)
unfolding slot_count
tail-short (position.Bof min max) items is = tt
tail-short (position.Eof min max) items is =
    let few = is.slots in
    let n : ℕ = sum_by item_slots items in
    let last = (all_but_last-All (λ (l : List Item). span l ≤ n) (omega arith) (stages_of None [] items)
    (stages_of-short None [] items n is.expression.sound (omega arith))).1 in
    omega arith
tail-short position.Variable items is = tt
