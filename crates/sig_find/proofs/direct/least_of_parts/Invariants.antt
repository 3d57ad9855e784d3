use Rattle.std.proofs.Common.{◌≤◌, sum_by, take}
use Rattle.sig_find.specs.Lengths.{part_length}
use Rattle.sig_find.proofs.direct.least_of_parts.Given as goal

abbrev pub invariant-loop-part : goal.invariant-loop-part
invariant-loop-part l = l.sum ≤ sum_by part_length (take l.part-index l.parts)
