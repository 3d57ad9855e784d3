use Rattle.sig_auto.proofs.Common.{drop, map, alternatives_tree}
use Rattle.sig_auto.proofs.BuildLemmas.{Comes}
use Rattle.sig_auto.proofs.build.push_alternatives.Given as goal

abbrev pub invariant-loop-j : goal.invariant-loop-j
invariant-loop-j l = Comes (alternatives_tree (map (λ v. v.items) l.fn.alternatives)) (alternatives_tree (map (λ v. v.items) (drop l.j l.fn.alternatives)))
    l.fn.n l.front l.behind l.initial.cells.items l.cells.items l.slots l.front
