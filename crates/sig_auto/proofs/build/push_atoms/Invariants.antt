use Rattle.sig_auto.proofs.Common.{drop, atoms_tree}
use Rattle.sig_auto.proofs.BuildLemmas.{Comes}
use Rattle.sig_auto.proofs.build.push_atoms.Given as goal

abbrev pub invariant-loop-j : goal.invariant-loop-j
invariant-loop-j l = Comes (atoms_tree l.fn.atoms) (atoms_tree (drop l.j l.fn.atoms)) l.fn.n l.fn.front l.behind l.initial.cells.items l.cells.items l.slots
    l.from
