-- The tree of a sequence is flat.
use Rattle.sig_auto.proofs.Common.{◌≡◌, ℕ, ◌<◌, false, List, [], ◌∷◌, length, refl, arith, and_left, Class, is_nullable, above, below, between, Tree}
use Rattle.sig_auto.proofs.Common.{alternatives_tree, atom_tree, atoms_tree, back_tree, item_tree, items_tree, row_tree, rows_tree, whole_tree, Atom, Item}
use Rattle.sig_auto.proofs.Common.{AlternativesSound, AtomSound, AtomsSound, ItemSound, ItemsSound, SequenceView, IsSequence, IsFirm, IsFlat}
use Rattle.sig_auto.proofs.WholeLemmas.{Long, Long-append, long_above, long_below, long_between}
use Rattle.sig_auto.proofs.BeginLemmas.{alternatives_not_nullable, atom_not_nullable, rows_not_nullable}
use Rattle.sig_expr.specs.declared.item.Atom.TheVariants as atom
use Rattle.sig_expr.specs.declared.item.Item.TheVariants as item

-- a tree without gaps, whose choices need a byte
record IsPlain (t : Tree) : Type 0 where
  flat : IsFlat t
  firm : IsFirm t

row_plain : (cs : List Class) → IsPlain (row_tree cs)
row_plain [] = record { flat = tt; firm = tt }
row_plain (c ∷ cs) = grind (arith, row_plain cs)

row_needs : (n : ℕ) (r : List Class) → 0 < n → length r ≡ n → is_nullable (row_tree r) ≡ false
row_needs n [] some h = absurd (omega arith)
row_needs n (c ∷ cs) some h = refl

rows_plain : (n : ℕ) (rs : List (List Class)) → 0 < n → Long n rs → IsPlain (rows_tree rs)
rows_plain n [] some h = record { flat = tt; firm = tt }
rows_plain n (r ∷ rs) some h = grind (arith, row_plain r, row_needs n r, rows_not_nullable n rs, rows_plain n rs some h.1)

atom_plain : (p : Atom) → AtomSound p → IsPlain (atom_tree p)
atom_plain (atom.Byte b) sound = record { flat = tt; firm = tt }
atom_plain (atom.Range a b) sound = grind (arith, between a b, long_between a b sound.same_length, rows_plain)
atom_plain (atom.Not a) sound = grind (arith, below a, above a, Long-append, below, above, long_below, long_above, rows_plain)
atom_plain (atom.NotRange a b) sound = grind (arith, below a, above b, Long-append, below, above, long_below, long_above, rows_plain)

atoms_plain : (ps : List Atom) → AtomsSound ps → IsPlain (atoms_tree ps)
atoms_plain [] sound = record { flat = tt; firm = tt }
atoms_plain (p ∷ ps) sound = grind (arith, atom_plain p sound.0, atoms_plain ps sound.1)

atoms_need : (ps : List Atom) → AtomsSound ps → 0 < length ps → is_nullable (atoms_tree ps) ≡ false
atoms_need [] sound some = absurd (omega arith)
atoms_need (p ∷ ps) sound some = and_left (is_nullable (atom_tree p)) (is_nullable (atoms_tree ps)) (atom_not_nullable p sound.0)

alternatives_plain : (alternatives : List (List Atom)) → AlternativesSound alternatives → IsPlain (alternatives_tree alternatives)
alternatives_plain [] sound = record { flat = tt; firm = tt }
alternatives_plain (a ∷ rest) sound = grind (arith, atoms_plain, atoms_need, alternatives_not_nullable, alternatives_plain rest sound.1)

item_flat : (i : Item) → ItemSound i → IsFlat (item_tree i)
item_flat (item.Byte b) sound = tt
item_flat item.Any sound = tt
item_flat (item.Gap min max) sound = tt
item_flat (item.Alt alternatives) sound = (alternatives_plain alternatives sound.0).flat
item_flat (item.Range a b) sound = (atom_plain (atom.Range a b) sound).flat
item_flat (item.Not a) sound = (atom_plain (atom.Not a) sound).flat
item_flat (item.NotRange a b) sound = (atom_plain (atom.NotRange a b) sound).flat

items_flat : (is : List Item) (last : Tree) → ItemsSound is → IsFlat last → IsFlat (items_tree is last)
items_flat [] last sound h = h
items_flat (i ∷ is) last sound h = (item_flat i sound.0, items_flat is last sound.1 h)

pub whole_is_flat : (s : SequenceView) → IsSequence s → IsFlat (whole_tree s)
whole_is_flat s h = grind (arith, items_flat s.items (back_tree s.position) h.expression.sound)
