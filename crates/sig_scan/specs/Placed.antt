-- Where a word of items lies in a file.
use Rattle.std.specs.Prelude.{ℕ, ◌≤◌, List, length, slice_range}
use Rattle.sig_expr.specs.declared.item.Item.{Item}
use Rattle.sig_expr.specs.Words.{Lang}

-- a word of the items lies in the file from this offset to that one
pub record Lies (items : List Item) (file : List ℕ) (start end : ℕ) : Type 0 where
  pub in_order : start ≤ end
  pub within : end ≤ length file
  pub is_word : Lang items (slice_range file start end)
