-- Which texts spell an expression: the grammar, by cases over the items.
use Rattle.std.specs.Prelude.{◌≡◌, ◌⊎◌, ℕ, ◌+◌, ◌*◌, ◌<◌, ◌≤◌, List, [], ◌∷◌, ◌++◌, length, Option, Some, None, codes, decimal}
use Rattle.hex.specs.Hex.{hex_digit_value}
use Rattle.sig_expr.specs.declared.item.Atom.{Atom}
use Rattle.sig_expr.specs.declared.item.Atom.TheVariants as atom
use Rattle.sig_expr.specs.declared.item.Item.{Item}
use Rattle.sig_expr.specs.declared.item.Item.TheVariants as item

-- two hexadecimal digits of a byte, in either case
pub record PairText (b : ℕ) (t : List ℕ) : Type 0 where
  pub high : ℕ
  pub low : ℕ
  pub high_value : ℕ
  pub low_value : ℕ
  pub text : t ≡ high ∷ low ∷ []
  pub is_high : hex_digit_value high ≡ Some high_value
  pub is_low : hex_digit_value low ≡ Some low_value
  pub byte : b ≡ high_value * 16 + low_value

-- pairs one after the other
abbrev pub WordText : List ℕ → List ℕ → Type 0
WordText [] t = t ≡ []
WordText (b ∷ bs) t = (u v : List ℕ) × (t ≡ u ++ v) × PairText b u × WordText bs v

-- a number below 100,000 without leading zeros
pub record NumberText (n : ℕ) (t : List ℕ) : Type 0 where
  pub digits : t ≡ decimal n
  pub few : n < 100000

-- `{n}`, where both lengths are n, or `{m-n}`
abbrev pub GapText : ℕ → Option ℕ → List ℕ → Type 0
GapText min None t =
    ((t ≡ codes "*") × (min ≡ 0)) ⊎
    ((u : List ℕ) × (t ≡ codes "{" ++ (u ++ codes "-*}")) × NumberText min u)
GapText min (Some max) t =
    ((u : List ℕ) × (t ≡ codes "{" ++ (u ++ codes "}")) × NumberText max u × (min ≡ max)) ⊎
    ((u v : List ℕ) × (t ≡ codes "{" ++ (u ++ (codes "-" ++ (v ++ codes "}")))) × NumberText min u × NumberText max v)

-- a bracket with two ends, behind what opens it
pub record RangeText (opening a b t : List ℕ) : Type 0 where
  pub first : List ℕ
  pub second : List ℕ
  pub text : t ≡ opening ++ (first ++ (codes ":" ++ (second ++ codes "]")))
  pub is_first : WordText a first
  pub is_second : WordText b second
  pub some_first : 0 < length a
  pub some_second : 0 < length b

-- a bracket with one end
pub record NotText (a t : List ℕ) : Type 0 where
  pub end : List ℕ
  pub text : t ≡ codes "[!" ++ (end ++ codes "]")
  pub is_end : WordText a end
  pub some : 0 < length a

-- a part of an alternative
abbrev pub AtomText : Atom → List ℕ → Type 0
AtomText (atom.Byte b) t = PairText b t
AtomText (atom.Range a b) t = RangeText (codes "[") a b t
AtomText (atom.Not a) t = NotText a t
AtomText (atom.NotRange a b) t = RangeText (codes "[!") a b t

-- parts one after the other
abbrev pub AlternativeText : List Atom → List ℕ → Type 0
AlternativeText [] t = t ≡ []
AlternativeText (p ∷ ps) t = (u v : List ℕ) × (t ≡ u ++ v) × AtomText p u × AlternativeText ps v

-- alternatives of one part at least, the first behind this sign and the others behind bars
abbrev pub AlternativesText : List ℕ → List (List Atom) → List ℕ → Type 0
AlternativesText sign [] t = t ≡ []
AlternativesText sign (a ∷ rest) t = (u v : List ℕ) × (t ≡ sign ++ (u ++ v)) × (0 < length a) × AlternativeText a u × AlternativesText (codes "|") rest v

-- a list of two alternatives at least
pub record ListText (alternatives : List (List Atom)) (t : List ℕ) : Type 0 where
  pub inside : List ℕ
  pub text : t ≡ inside ++ codes ")"
  pub is_inside : AlternativesText (codes "(") alternatives inside
  pub two : 2 ≤ length alternatives

-- an item
abbrev pub ItemText : Item → List ℕ → Type 0
ItemText (item.Byte b) t = PairText b t
ItemText item.Any t = t ≡ codes "??"
ItemText (item.Gap min max) t = GapText min max t
ItemText (item.Alt alternatives) t = ListText alternatives t
ItemText (item.Range a b) t = RangeText (codes "[") a b t
ItemText (item.Not a) t = NotText a t
ItemText (item.NotRange a b) t = RangeText (codes "[!") a b t

-- the text is a text of each item, one after the other
abbrev pub Spells : List Item → List ℕ → Type 0
Spells [] t = t ≡ []
Spells (i ∷ is) t = (u v : List ℕ) × (t ≡ u ++ v) × ItemText i u × Spells is v

-- the text spells one item or more
abbrev pub IsText : List ℕ → Type 0
IsText t = (e : List Item) × (0 < length e) × Spells e t
