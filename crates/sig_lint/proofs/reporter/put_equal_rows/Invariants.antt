use Rattle.std.proofs.Common.{◌≡◌, ◌++◌, take}
use Rattle.std.specs.Prelude.{flat_map}
use Rattle.sig_lint.specs.Reports.{equal_line}
use Rattle.sig_lint.proofs.reporter.put_equal_rows.Given as goal

-- a warning of each pair so far
abbrev pub invariant-loop-pair : goal.invariant-loop-pair
invariant-loop-pair l = l.out.items ≡ l.fn.out.items ++ flat_map (equal_line l.table) (take l.pair-index l.pair-items)
