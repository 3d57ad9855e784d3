use Rattle.std.proofs.Common.{◌≤◌, All, take}
use Rattle.sig_find.specs.Lengths.{parts_length}
use Rattle.sig_find.proofs.direct.least_of_alternatives.Given as goal

abbrev pub invariant-loop-parts : goal.invariant-loop-parts
invariant-loop-parts l = All (λ p. l.least ≤ parts_length p.items) (take l.parts-index l.parts-items)
