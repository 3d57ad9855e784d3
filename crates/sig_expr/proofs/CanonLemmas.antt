-- Canonical texts of what is left of a list.
use Rattle.std.proofs.Common.{◌≡◌, ℕ, ◌+◌, ◌<◌, List, [], ◌∷◌, ◌++◌, length, drop, get_or, map, refl, add-one, drop-cons, Vec, Global, Bool, true, false, cond}
use Rattle.std.proofs.Common.{nat_eq, Option, Some, None, arith, length-append}
use Rattle.hex.specs.Hex.{encode_upper, encode_with}
use Rattle.sig_expr.specs.declared.item.Atom.{Atom}
use Rattle.sig_expr.specs.declared.item.Item.{Item}
use Rattle.sig_expr.specs.declared.item.Item.TheVariants as item
use Rattle.sig_expr.specs.Canon.{atom_text, alternative_text, alternatives_text, item_text, canon, gap_text, from_text, count_text, between_text, range_text}
use Rattle.sig_expr.specs.Canon.{not_text}

some_if : (b : Bool) (x y : List ℕ) → 0 < length x → 0 < length y → 0 < length (cond b x y)
some_if true x y hx hy = hx
some_if false x y hx hy = hy

pub encode_upper-rest : (xs : List ℕ) (i d : ℕ) → i < length xs → encode_upper (drop i xs) ≡ encode_upper (get_or xs i d ∷ []) ++ encode_upper (drop (i + 1) xs)
unfolding encode_with
encode_upper-rest xs i d h = rw (add-one, drop-cons xs i d) refl

pub alternative_text-rest : (xs : List Atom) (i : ℕ) (d : Atom) → i < length xs
    → alternative_text (drop i xs) ≡ atom_text (get_or xs i d) ++ alternative_text (drop (i + 1) xs)
unfolding alternative_text
alternative_text-rest xs i d h = rw (add-one, drop-cons xs i d) refl

pub canon-rest : (xs : List Item) (i : ℕ) (d : Item) → i < length xs → canon (drop i xs) ≡ item_text (get_or xs i d) ++ canon (drop (i + 1) xs)
unfolding canon
canon-rest xs i d h = rw (add-one, drop-cons xs i d) refl

pub alternatives_text-rest : (sign : List ℕ) (xs : List (Vec Atom Global)) (i : ℕ) (d : Vec Atom Global) → i < length xs
    → alternatives_text sign (map (λ v. v.items) (drop i xs)) ≡ sign
    ++ (alternative_text (get_or xs i d).items ++ alternatives_text (124 ∷ []) (map (λ v. v.items) (drop (i + 1) xs)))
unfolding alternatives_text
alternatives_text-rest sign xs i d h = rw (add-one, drop-cons xs i d) refl

-- a text of a gap is not empty
gap_text-some : (min : ℕ) (max : Option ℕ) → 0 < length (gap_text min max)
unfolding from_text count_text between_text
gap_text-some min None = some_if (nat_eq min 0) _ _ (omega arith) (omega arith)
gap_text-some min (Some max) = some_if (nat_eq min max) _ _ (omega arith) (omega arith)

range_text-some : (opening a b : List ℕ) → 0 < length opening → 0 < length (range_text opening a b)
unfolding range_text
range_text-some opening a b h = simp length-append (omega arith)

not_text-some : (a : List ℕ) → 0 < length (not_text a)
unfolding not_text
not_text-some a = omega arith

item_text-some : (i : Item) → 0 < length (item_text i)
unfolding encode_with
item_text-some (item.Byte b) = omega arith
item_text-some item.Any = omega arith
item_text-some (item.Gap min max) = gap_text-some min max
item_text-some (item.Alt alternatives) = simp length-append (omega arith)
item_text-some (item.Range a b) = range_text-some (91 ∷ []) a b (omega arith)
item_text-some (item.Not a) = not_text-some a
item_text-some (item.NotRange a b) = range_text-some (91 ∷ 33 ∷ []) a b (omega arith)

-- the text of an item or more is not empty
pub canon-some : (is : List Item) → 0 < length is → 0 < length (canon is)
unfolding canon
canon-some [] h = h
canon-some (i ∷ is) h = simp length-append (omega (arith, item_text-some i))
