use Rattle.sig_auto.proofs.Common.{◌≡◌, ◌+◌, drop, map, rows_tree, cells_in}
use Rattle.sig_auto.proofs.build.count_rows.Given as goal

abbrev pub invariant-loop-j : goal.invariant-loop-j
invariant-loop-j l = l.count + cells_in (rows_tree (map (λ v. v.items) (drop l.j l.fn.rows))) ≡ cells_in (rows_tree (map (λ v. v.items) l.fn.rows))
