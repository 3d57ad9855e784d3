use Rattle.sig_scan.proofs.Common.{◌≡◌, take, parts_length}
use Rattle.sig_scan.proofs.lengths.length_of_all.Given as goal

-- those of the parts so far
abbrev pub invariant-loop-part : goal.invariant-loop-part
invariant-loop-part l = l.sum ≡ parts_length (take l.part-index l.parts)
