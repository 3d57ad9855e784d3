use Rattle.std.proofs.Common.{◌≡◌}
use Rattle.std.specs.Prelude.{fold}
use Rattle.sig_lint.specs.EqualRows.{no_row, rows_before, with_row}
use Rattle.sig_lint.proofs.row_owners.rows_of_two_formats.Given as goal

-- the rows of the first signatures
abbrev pub invariant-loop-place : goal.invariant-loop-place
invariant-loop-place l = l.rows ≡ fold with_row no_row (rows_before l.table.signatures l.place)
