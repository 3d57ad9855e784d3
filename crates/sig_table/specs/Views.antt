-- A table as its lists.
use Rattle.std.specs.Prelude.{ℕ, List}
use Rattle.sig_expr.specs.declared.item.Item.{Item}
use Rattle.sig_table.specs.declared.position.Position.{Position}
use Rattle.sig_table.specs.declared.puid.Puid.{Puid}

-- a sequence: the items of its expression, and their place
pub record SequenceView : Type 0 where
  pub position : Position
  pub items : List Item

-- a signature: the format that it is of, its number, and its sequences in order
pub record SignatureView : Type 0 where
  pub format : ℕ
  pub number : ℕ
  pub sequences : List SequenceView

-- a table: the formats in order, the signatures in order, and the pairs of which the first format outranks the second
pub record TableView : Type 0 where
  pub formats : List Puid
  pub signatures : List SignatureView
  pub priorities : List (ℕ × ℕ)
