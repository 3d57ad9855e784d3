use Rattle.std.proofs.Common.{◌-◌, drop, length}
use Rattle.sig_find.specs.Lengths.{IsLeastOfItems}
use Rattle.sig_find.proofs.direct.least_of_items.Given as goal

abbrev pub invariant-loop-item : goal.invariant-loop-item
invariant-loop-item l = IsLeastOfItems (drop (length l.items - length l.yielded) l.items) l.least
