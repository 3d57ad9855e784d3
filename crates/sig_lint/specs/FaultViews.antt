-- A fault of a row.
use Rattle.std.specs.Prelude.{ℕ, List}
use Rattle.sig_table.specs.declared.error.TableError.{TableError}
use Rattle.sig_lint.specs.declared.fields.Field.{Field}

-- the fields of the record that has it, what the loader says of it, and the field that is at fault
pub record FaultView : Type 0 where
  pub fields : List (List ℕ)
  pub error : TableError
  pub field : Field
