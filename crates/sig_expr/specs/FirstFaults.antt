-- The first faulty gap or bracket of a text, its fault and its place: by cases over the grammar.
use Rattle.std.specs.Prelude.{◌≡◌, ◌≢◌, ◌⊎◌, ℕ, ◌+◌, ◌<◌, ◌≤◌, Bool, true, false, List, [], ◌∷◌, ◌++◌, length, Option, Some, None, codes}
use Rattle.sig_expr.specs.declared.item.Atom.{Atom}
use Rattle.sig_expr.specs.declared.item.Atom.TheVariants as atom
use Rattle.sig_expr.specs.declared.item.Item.{Item}
use Rattle.sig_expr.specs.declared.item.Item.TheVariants as item
use Rattle.sig_expr.specs.declared.error.ExprError.{ExprError}
use Rattle.sig_expr.specs.declared.error.ExprError.TheVariants as error
use Rattle.sig_expr.specs.Words.{IsBefore}
use Rattle.sig_expr.specs.Spelling.{AtomText, AlternativeText, AlternativesText, ItemText, Spells}
use Rattle.sig_expr.specs.Profile.{LeavesWord, AtomSound, AtomsSound, ItemSound}

-- the number of a refusal: of `E3` it is 3
abbrev pub refusal_number : ExprError → ℕ
refusal_number error.TooLong = 1
refusal_number (error.Syntax n) = 2
refusal_number (error.GapNumber n) = 3
refusal_number (error.GapEmpty n) = 4
refusal_number (error.GapOrder n) = 5
refusal_number (error.RangeOrder n) = 6
refusal_number (error.ClassEmpty n) = 7
refusal_number error.OutOfMemory = 8
refusal_number (error.RangeLength n) = 9
refusal_number (error.BracketTooLong n) = 10

-- the place that a refusal names
abbrev pub refusal_place : ExprError → Option ℕ
refusal_place error.TooLong = None
refusal_place (error.Syntax n) = Some n
refusal_place (error.GapNumber n) = Some n
refusal_place (error.GapEmpty n) = Some n
refusal_place (error.GapOrder n) = Some n
refusal_place (error.RangeOrder n) = Some n
refusal_place (error.ClassEmpty n) = Some n
refusal_place error.OutOfMemory = None
refusal_place (error.RangeLength n) = Some n
refusal_place (error.BracketTooLong n) = Some n

-- the faults of a gap: a number over 65,535, a greatest length of 0, a least above the greatest
abbrev pub GapHas : ℕ → Option ℕ → ExprError → Type 0
GapHas min None (error.GapNumber n) = 65535 < min
GapHas min (Some max) (error.GapNumber n) = (65535 < min) ⊎ (65535 < max)
GapHas min (Some max) (error.GapEmpty n) = max ≡ 0
GapHas min (Some max) (error.GapOrder n) = max < min
GapHas min max fault = ⊥

-- ends of one length, of at most eight bytes
abbrev pub AreEnds : List ℕ → List ℕ → Type 0
AreEnds a b = (length a ≡ length b) × (length a ≤ 8)

-- the faults of a bracket with two ends: two lengths, or an end of over eight bytes; where neither is,
-- a first end not before the second, and where the bracket excludes, no word outside
abbrev pub RangeHas : Bool → List ℕ → List ℕ → ExprError → Type 0
RangeHas excludes a b (error.RangeLength n) = length a ≢ length b
RangeHas excludes a b (error.BracketTooLong n) = (8 < length a) ⊎ (8 < length b)
RangeHas excludes a b (error.RangeOrder n) = AreEnds a b × (IsBefore a b → ⊥)
RangeHas true a b (error.ClassEmpty n) = AreEnds a b × (LeavesWord a b → ⊥)
RangeHas excludes a b fault = ⊥

-- the fault of a bracket with one end: over eight bytes
abbrev pub NotHas : List ℕ → ExprError → Type 0
NotHas a (error.BracketTooLong n) = 8 < length a
NotHas a fault = ⊥

-- what opens at n is refused for this fault: one that it has, and none that it has is of a lower number
pub record IsRefused (n : ℕ) (Has : ExprError → Type 0) (fault : ExprError) : Type 0 where
  pub place : refusal_place fault ≡ Some n
  pub has : Has fault
  pub lowest : (other : ExprError) → Has other → refusal_number fault ≤ refusal_number other

-- the faults of a part of an alternative
abbrev pub AtomHas : Atom → ExprError → Type 0
AtomHas (atom.Byte b) fault = ⊥
AtomHas (atom.Range a b) fault = RangeHas false a b fault
AtomHas (atom.Not a) fault = NotHas a fault
AtomHas (atom.NotRange a b) fault = RangeHas true a b fault

-- the first fault of parts whose text begins at n
abbrev pub FirstOfAtoms : List Atom → List ℕ → ℕ → ExprError → Type 0
FirstOfAtoms [] t n fault = ⊥
FirstOfAtoms (p ∷ ps) t n fault =
    (u v : List ℕ) × (t ≡ u ++ v) × AtomText p u × AlternativeText ps v × (IsRefused n (AtomHas p) fault ⊎ (AtomSound p × FirstOfAtoms ps v (n + length u) fault))

-- the first fault of alternatives whose text begins at n with this sign
abbrev pub FirstOfAlternatives : List ℕ → List (List Atom) → List ℕ → ℕ → ExprError → Type 0
FirstOfAlternatives sign [] t n fault = ⊥
FirstOfAlternatives sign (a ∷ rest) t n fault =
    (u v : List ℕ) × (t ≡ sign ++ (u ++ v)) × (0 < length a) × AlternativeText a u × AlternativesText (codes "|") rest v
    × (FirstOfAtoms a u (n + 1) fault ⊎ (AtomsSound a × FirstOfAlternatives (codes "|") rest v (n + 1 + length u) fault))

-- the first fault of an item whose text begins at n
abbrev pub FirstOfItem : Item → List ℕ → ℕ → ExprError → Type 0
FirstOfItem (item.Byte b) t n fault = ⊥
FirstOfItem item.Any t n fault = ⊥
FirstOfItem (item.Gap min max) t n fault = IsRefused n (GapHas min max) fault
FirstOfItem (item.Alt alternatives) t n fault = (inside : List ℕ) × (t ≡ inside ++ codes ")") × FirstOfAlternatives (codes "(") alternatives inside n fault
FirstOfItem (item.Range a b) t n fault = IsRefused n (RangeHas false a b) fault
FirstOfItem (item.Not a) t n fault = IsRefused n (NotHas a) fault
FirstOfItem (item.NotRange a b) t n fault = IsRefused n (RangeHas true a b) fault

-- the first fault of items whose text begins at n: that of the first item, or it has none, and that of the rest
abbrev pub FirstOfItems : List Item → List ℕ → ℕ → ExprError → Type 0
FirstOfItems [] t n fault = ⊥
FirstOfItems (i ∷ is) t n fault =
    (u v : List ℕ) × (t ≡ u ++ v) × ItemText i u × Spells is v × (FirstOfItem i u n fault ⊎ (ItemSound i × FirstOfItems is v (n + length u) fault))

-- a text of the grammar, of at most 8,192 bytes, whose first faulty gap or bracket is refused so
pub record IsFirstFault (fault : ExprError) (t : List ℕ) : Type 0 where
  pub short : length t ≤ 8192
  pub items : List Item
  pub first : FirstOfItems items t 0 fault
