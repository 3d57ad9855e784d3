use Rattle.std.proofs.Common.{[], ◌∷◌, ◌++◌, map}
use Rattle.sig_find.specs.Additions.{AreOverBelow}
use Rattle.sig_find.proofs.addition.signatures_over.Given as goal

abbrev pub invariant-loop-index : goal.invariant-loop-index
invariant-loop-index l = AreOverBelow l.fn.table (l.fn.ranking.pairs ++ (l.fn.higher.0, l.fn.lower.0) ∷ []) l.fn.lower.0 l.index (map (λ s. s.0) l.found.items)
