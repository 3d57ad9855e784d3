use Rattle.sig_scan.proofs.Common.{◌≢◌, ◌⊎◌, ◌≡◌, slice_index}
use Rattle.sig_scan.proofs.filter.slot_for.Given as goal

-- behind the first slot, that one is not free
abbrev pub invariant-loop-slot : goal.invariant-loop-slot
invariant-loop-slot l = (l.slot ≡ l.list) ⊎ (slice_index l.slots l.list ≢ 0)
