use Rattle.sig_scan.proofs.Common.{◌≡◌, length, take, vec_capacity, vec_len}
use Rattle.sig_scan.proofs.copy.copy_items.Given as goal

-- the items so far, and room for the others
abbrev pub invariant-loop-item : goal.invariant-loop-item
invariant-loop-item l = record {
  same : l.copy.items ≡ take l.item-index l.items;
  len : vec_len l.copy ≡ l.item-index;
  room : vec_capacity l.copy ≡ length l.items;
}
