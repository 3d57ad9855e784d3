use Rattle.sig_scan.proofs.Common.{◌≡◌, ◌+◌, ◌≤◌, ◌<◌, ℕ, Some, slice_index, slice_get, AreLowered, IsPassedAt, Entry}
use Rattle.sig_scan.proofs.filter.Filter.visit.Given as goal

-- the entries of the slots so far are compared
abbrev pub invariant-loop-slot : goal.invariant-loop-slot
invariant-loop-slot l = record {
  lowered : AreLowered l.fn.found l.found;
  passed : (slot i : ℕ) (e : Entry) → l.list ≤ slot → slot < l.slot → slice_index l.self-inside.slots.items slot ≡ i + 1 → slice_get l.self i ≡ Some e
      → IsPassedAt e l.bytes l.states l.place l.found;
}
