-- How short a file can be that a signature hits.
use Rattle.std.specs.Prelude.{ℕ, ◌≤◌, List, length, sum_by}
use Rattle.sig_core.specs.Hits.{HitsOf}
use Rattle.sig_expr.specs.declared.item.Atom.{Atom}
use Rattle.sig_expr.specs.declared.item.Atom.TheVariants as atom
use Rattle.sig_expr.specs.declared.item.Item.{Item}
use Rattle.sig_expr.specs.Words.{Lang, Word}
use Rattle.sig_table.specs.Standing.{Stands}
use Rattle.sig_table.specs.Views.{SequenceView, TableView}

-- how many bytes a word of the part has
abbrev pub part_length : Atom → ℕ
part_length (atom.Byte b) = 1
part_length (atom.Range a b) = length a
part_length (atom.Not a) = length a
part_length (atom.NotRange a b) = length a

-- how many bytes a word of these parts has
abbrev pub parts_length : List Atom → ℕ
parts_length parts = sum_by part_length parts

-- no word of the item is shorter
abbrev pub IsLeastOfItem : Item → ℕ → Type 0
IsLeastOfItem i n = (w : List ℕ) → Word i w → n ≤ length w

-- no word of the items is shorter
abbrev pub IsLeastOfItems : List Item → ℕ → Type 0
IsLeastOfItems items n = (w : List ℕ) → Lang items w → n ≤ length w

-- the sequence stands in no shorter file
abbrev pub IsLeastOfSequence : SequenceView → ℕ → Type 0
IsLeastOfSequence s n = (file : List ℕ) → Stands s file → n ≤ length file

-- the signature hits no shorter file
abbrev pub IsLeastOf : TableView → ℕ → ℕ → Type 0
IsLeastOf table s n = (file : List ℕ) → HitsOf table s file → n ≤ length file
