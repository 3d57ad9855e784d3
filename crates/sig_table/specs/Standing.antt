-- When a sequence stands in a file, and when a signature hits it.
use Rattle.std.specs.Prelude.{◌≡◌, ℕ, ◌≤◌, List, ◌++◌, length, All}
use Rattle.sig_expr.specs.declared.item.Item.{Item}
use Rattle.sig_expr.specs.Words.{Lang}
use Rattle.sig_table.specs.declared.position.Position.{Position}
use Rattle.sig_table.specs.declared.position.Position.TheVariants as position
use Rattle.sig_table.specs.Views.{SequenceView, SignatureView}

-- the file is a front, a word of the items, and a back
pub record Cut (items : List Item) (file : List ℕ) : Type 0 where
  pub front : List ℕ
  pub word : List ℕ
  pub back : List ℕ
  pub cut : file ≡ front ++ word ++ back
  pub is_word : Lang items word

-- some cut has a front, or a back, whose length is within the offsets; anywhere, any cut will do
abbrev pub StandsAt : Position → List Item → List ℕ → Type 0
StandsAt (position.Bof min max) items file = (c : Cut items file) × (min ≤ length c.front) × (length c.front ≤ max)
StandsAt (position.Eof min max) items file = (c : Cut items file) × (min ≤ length c.back) × (length c.back ≤ max)
StandsAt position.Variable items file = Cut items file

-- the sequence stands in the file
abbrev pub Stands : SequenceView → List ℕ → Type 0
Stands sequence file = StandsAt sequence.position sequence.items file

-- each sequence of the signature stands in the file
abbrev pub Hits : SignatureView → List ℕ → Type 0
Hits signature file = All (λ s. Stands s file) signature.sequences
