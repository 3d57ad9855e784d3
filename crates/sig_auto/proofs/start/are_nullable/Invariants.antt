use Rattle.sig_auto.proofs.Common.{◌≡◌, drop, is_nullable, Tree, items_tree, ItemsSound}
use Rattle.sig_auto.proofs.start.are_nullable.Given as goal

-- all items so far can be skipped
abbrev pub invariant-loop-item : goal.invariant-loop-item
invariant-loop-item l = record {
  sound : ItemsSound (drop l.item-index l.items);
  skipped : (last : Tree) → is_nullable (items_tree l.items last) ≡ is_nullable (items_tree (drop l.item-index l.items) last);
}
