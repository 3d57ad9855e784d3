-- The slots that are entered on a byte, in order.
use Rattle.std.specs.Prelude.{◌≡◌, ℕ, ◌+◌, ◌-◌, ◌&&◌, ◌||◌, nat_le, nat_lt, Bool, if◌then◌else◌, List, [], ◌∷◌, ◌++◌, get_or, replicate, Option, Some, None}
use Rattle.sig_auto.specs.declared.class.Class.{Class}
use Rattle.sig_auto.specs.declared.class.Class.TheVariants.{Within, Outside}
use Rattle.sig_auto.specs.Classes.{any}
use Rattle.sig_auto.specs.declared.cell.Cell.{Cell}
use Rattle.sig_auto.specs.Ways.{meets, onward}

-- the test whether a byte is in a class
abbrev pub in_class : Class → ℕ → Bool
in_class (Within first last) b = nat_le first b && nat_le b last
in_class (Outside first last) b = nat_lt b 256 && (nat_lt b first || nat_lt last b)

-- the first slots of the cells that are entered behind the joint and take the byte
abbrev pub taken : ℕ → Option ℕ → List Cell → List ℕ
taken byte j [] = []
taken byte j (c ∷ cs) = if meets c j && in_class c.class byte then (c.before + 1) ∷ taken byte (onward c j) cs else taken byte (onward c j) cs

-- those that are entered where the first of the cells is
abbrev pub taken_first : ℕ → List Cell → List ℕ
taken_first byte [] = []
taken_first byte (c ∷ cs) = taken byte (Some c.front) (c ∷ cs)

-- the first of the list, with those behind it; where there is none, both lists are empty
abbrev pub GivesFirst : Option ℕ → List ℕ → List ℕ → Type 0
GivesFirst None list rest = (list ≡ []) × (rest ≡ [])
GivesFirst (Some q) list rest = list ≡ q ∷ rest

-- the class of each slot, in order
abbrev pub spread : List Cell → List Class
spread [] = []
spread (c ∷ cs) = replicate c.count c.class ++ spread cs

-- the class of slot q
abbrev pub class_in : List Cell → ℕ → Class
class_in cells q = get_or (spread cells) (q - 1) any

-- the own next slot, if there is one
abbrev pub own_list : Option ℕ → List ℕ
own_list None = []
own_list (Some q) = q ∷ []

-- the own next slot, if there is one and it takes the byte
abbrev pub own_taken : List Cell → Option ℕ → ℕ → List ℕ
own_taken cells None byte = []
own_taken cells (Some q) byte = if in_class (class_in cells q) byte then q ∷ [] else []
