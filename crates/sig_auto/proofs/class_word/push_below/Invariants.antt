use Rattle.sig_auto.proofs.Common.{◌≡◌, ◌++◌, drop, map, take, behind_these, below}
use Rattle.sig_auto.proofs.class_word.push_below.Given as goal

-- the rows so far, and those that agree on more bytes
abbrev pub invariant-loop-j : goal.invariant-loop-j
invariant-loop-j l = map (λ v. v.items) l.rows.items ++ behind_these (take l.j l.bytes) (below (drop l.j l.bytes)) ≡ map (λ v. v.items) l.fn.rows.items
    ++ behind_these (take l.agreed l.bytes) (below (drop l.agreed l.bytes))
