use Rattle.sig_auto.proofs.Common.{drop, map, rows_tree}
use Rattle.sig_auto.proofs.BuildLemmas.{Comes}
use Rattle.sig_auto.proofs.build.push_rows.Given as goal

abbrev pub invariant-loop-j : goal.invariant-loop-j
invariant-loop-j l = Comes (rows_tree (map (λ v. v.items) l.fn.rows)) (rows_tree (map (λ v. v.items) (drop l.j l.fn.rows))) l.fn.n l.front l.behind
    l.initial.cells.items l.cells.items l.slots l.front
