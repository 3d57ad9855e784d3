use Rattle.sig_auto.proofs.Common.{◌≡◌, ◌+◌, drop, map, alternatives_tree, cells_in}
use Rattle.sig_auto.proofs.build.count_alternatives.Given as goal

abbrev pub invariant-loop-j : goal.invariant-loop-j
invariant-loop-j l = l.count + cells_in (alternatives_tree (map (λ v. v.items) (drop l.j l.fn.alternatives))) ≡ cells_in
    (alternatives_tree (map (λ v. v.items) l.fn.alternatives))
