use Rattle.std.proofs.Common.{◌≡◌, [], length}
use Rattle.std.specs.Prelude.{fold}
use Rattle.sig_lint.specs.Names.{with_row_name}
use Rattle.sig_lint.proofs.names.row_names.Given as goal

-- the names so far go on to the same answer
abbrev pub invariant-rows : goal.invariant-rows
invariant-rows l = fold with_row_name [] l.fn.records ≡ fold with_row_name l.names l.records

-- each read takes a record off
abbrev pub decreases-rows : goal.decreases-rows
decreases-rows l = length l.records
