-- How two formats of a table lie to each other: whether each file that leaves the one hits the other.
use Rattle.std.specs.Prelude.{◌≡◌, ◌⊎◌, ℕ, List, ◌++◌}
use Rattle.sig_bits.specs.Bytes.{IsBytes}
use Rattle.sig_cert.specs.Pairs.{signatures_of}
use Rattle.sig_core.specs.Hits.{HitsAt}
use Rattle.sig_product.specs.Products.{AreAllBlockers}
use Rattle.sig_table.specs.Views.{TableView}
use Rattle.sig_find.specs.Finding.{IsOfFormat}
use Rattle.sig_find.specs.Inclusions.{IsBeyond}
use Rattle.sig_find.specs.Leaving.{LeavesFormat}
use Rattle.sig_find.specs.declared.class.PairClass.{PairClass}
use Rattle.sig_find.specs.declared.class.PairClass.TheVariants as class
use Rattle.sig_find.specs.declared.class.Containment.{Containment}
use Rattle.sig_find.specs.declared.class.Containment.TheVariants as containment

-- some signature of the format hits the file
abbrev pub HitsFormat : TableView → ℕ → List ℕ → Type 0
HitsFormat table format file = (index : ℕ) × HitsAt table file format index

-- each file that leaves the format a hits the format b
abbrev pub IsContained : TableView → ℕ → ℕ → Type 0
IsContained table a b = (file : List ℕ) → IsBytes file → LeavesFormat table file a → HitsFormat table b file

-- some file leaves the format a and does not hit the format b
pub record StandsAlone (table : TableView) (a b : ℕ) : Type 0 where
  pub file : List ℕ
  pub is_file : IsBytes file
  pub leaves : LeavesFormat table file a
  pub not_hit : ¬ HitsFormat table b file

-- the others, and behind them all signatures whose format outranks that of this one
pub record AreTakers (table : TableView) (s : ℕ) (others takers : List ℕ) : Type 0 where
  pub blockers : List ℕ
  pub are_all : AreAllBlockers table s s blockers
  pub joined : takers ≡ others ++ blockers

-- it is too much to find whether each file that the signature hits is hit by one of the format b, or by one that outranks the signature
pub record IsOpenOf (table : TableView) (budget b s : ℕ) : Type 0 where
  pub takers : List ℕ
  pub are : AreTakers table s (signatures_of table b) takers
  pub beyond : IsBeyond table s takers budget

-- it is so for some signature of the format a
pub record IsOpen (table : TableView) (budget a b : ℕ) : Type 0 where
  pub signature : ℕ
  pub of : IsOfFormat table a signature
  pub is_open : IsOpenOf table budget b signature

-- which of the two formats are contained in the other, and which stand alone, or that one of the two questions is too much
abbrev pub IsClass : TableView → ℕ → ℕ × ℕ → PairClass → Type 0
IsClass table budget formats class.Over = IsContained table formats.0 formats.1 × StandsAlone table formats.1 formats.0
IsClass table budget formats class.Under = StandsAlone table formats.0 formats.1 × IsContained table formats.1 formats.0
IsClass table budget formats class.Same = IsContained table formats.0 formats.1 × IsContained table formats.1 formats.0
IsClass table budget formats class.Apart = StandsAlone table formats.0 formats.1 × StandsAlone table formats.1 formats.0
IsClass table budget formats class.Open = IsOpen table budget formats.0 formats.1 ⊎ IsOpen table budget formats.1 formats.0

-- the class of the two formats turned round
abbrev pub mirror_of : PairClass → PairClass
mirror_of class.Over = class.Under
mirror_of class.Under = class.Over
mirror_of class.Same = class.Same
mirror_of class.Apart = class.Apart
mirror_of class.Open = class.Open

-- what is found of one direction
abbrev pub IsContainment : TableView → ℕ → ℕ → ℕ → Containment → Type 0
IsContainment table budget a b containment.Contained = IsContained table a b
IsContainment table budget a b containment.Alone = StandsAlone table a b
IsContainment table budget a b containment.Open = IsOpen table budget a b

-- the class that follows from what is found of both
abbrev pub class_by : Containment → Containment → PairClass
class_by containment.Contained containment.Contained = class.Same
class_by containment.Contained containment.Alone = class.Over
class_by containment.Contained containment.Open = class.Open
class_by containment.Alone containment.Contained = class.Under
class_by containment.Alone containment.Alone = class.Apart
class_by containment.Alone containment.Open = class.Open
class_by containment.Open back = class.Open

-- each file that the signature hits and that leaves the format a hits the format b
abbrev pub IsHeld : TableView → ℕ → ℕ → ℕ → Type 0
IsHeld table a b s = (file : List ℕ) → IsBytes file → HitsAt table file a s → LeavesFormat table file a → HitsFormat table b file

-- the same of one signature of the format a
abbrev pub IsContainmentOf : TableView → ℕ → ℕ → ℕ → ℕ → Containment → Type 0
IsContainmentOf table budget a b s containment.Contained = IsHeld table a b s
IsContainmentOf table budget a b s containment.Alone = StandsAlone table a b
IsContainmentOf table budget a b s containment.Open = IsOpenOf table budget b s
