use Rattle.std.proofs.Common.{◌≡◌, length, map, take}
use Rattle.sig_expr.specs.declared.item.Item.TheVariants as item
use Rattle.sig_match.proofs.whole.run.gather_run.Given as goal

-- the items so far are these bytes
abbrev pub invariant-loop-item : goal.invariant-loop-item
invariant-loop-item l = record {
  len : length l.run.items ≡ l.item-index;
  bytes : take l.item-index l.items ≡ map item.Byte l.run.items;
}
