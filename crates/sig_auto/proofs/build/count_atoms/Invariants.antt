use Rattle.sig_auto.proofs.Common.{◌≡◌, ◌+◌, drop, atoms_tree, cells_in}
use Rattle.sig_auto.proofs.build.count_atoms.Given as goal

abbrev pub invariant-loop-j : goal.invariant-loop-j
invariant-loop-j l = l.count + cells_in (atoms_tree (drop l.j l.fn.atoms)) ≡ cells_in (atoms_tree l.fn.atoms)
