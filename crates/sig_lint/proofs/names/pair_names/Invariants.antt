use Rattle.std.proofs.Common.{◌≡◌, [], length}
use Rattle.std.specs.Prelude.{fold}
use Rattle.sig_lint.specs.Names.{with_pair_names}
use Rattle.sig_lint.proofs.names.pair_names.Given as goal

-- the names so far go on to the same answer
abbrev pub invariant-rows : goal.invariant-rows
invariant-rows l = fold with_pair_names [] l.fn.records ≡ fold with_pair_names l.names l.records

-- each read takes a record off
abbrev pub decreases-rows : goal.decreases-rows
decreases-rows l = length l.records
