use Rattle.std.proofs.Common.{◌≤◌, All, ℕ, List, length}
use Rattle.sig_table.specs.Standing.{Stands}
use Rattle.sig_find.proofs.direct.least_of_all.Given as goal

abbrev pub invariant-loop-sequence : goal.invariant-loop-sequence
invariant-loop-sequence l = (file : List ℕ) → All (λ s. Stands s file) l.sequences → l.least ≤ length file
