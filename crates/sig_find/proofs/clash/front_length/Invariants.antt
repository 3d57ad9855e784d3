use Rattle.std.proofs.Common.{◌≡◌, All, take}
use Rattle.sig_find.specs.Clashes.{IsOneByte}
use Rattle.sig_find.proofs.clash.front_length.Given as goal

abbrev pub invariant-loop-item : goal.invariant-loop-item
invariant-loop-item l = record {
  count : l.count ≡ l.item-index;
  front : All IsOneByte (take l.item-index l.items);
}
