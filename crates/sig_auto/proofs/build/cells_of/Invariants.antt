use Rattle.sig_auto.proofs.Common.{drop, back_tree, items_tree}
use Rattle.sig_auto.proofs.CellWholeLemmas.{Makes}
use Rattle.sig_auto.proofs.build.cells_of.Given as goal

abbrev pub invariant-loop-j : goal.invariant-loop-j
invariant-loop-j l = Makes l.sequence (items_tree (drop l.j l.items) (back_tree l.sequence.position)) l.cells.items l.slots
