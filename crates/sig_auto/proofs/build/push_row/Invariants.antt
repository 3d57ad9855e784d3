use Rattle.sig_auto.proofs.Common.{drop, row_tree}
use Rattle.sig_auto.proofs.BuildLemmas.{Comes}
use Rattle.sig_auto.proofs.build.push_row.Given as goal

abbrev pub invariant-loop-j : goal.invariant-loop-j
invariant-loop-j l = Comes (row_tree l.fn.row) (row_tree (drop l.j l.fn.row)) l.fn.n l.fn.front l.behind l.initial.cells.items l.cells.items l.slots l.from
