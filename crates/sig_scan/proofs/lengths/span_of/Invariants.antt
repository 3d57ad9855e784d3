use Rattle.sig_scan.proofs.Common.{◌≡◌, take, span}
use Rattle.sig_scan.proofs.lengths.span_of.Given as goal

-- those of the items so far
abbrev pub invariant-loop-item : goal.invariant-loop-item
invariant-loop-item l = l.sum ≡ span (take l.item-index l.items)
