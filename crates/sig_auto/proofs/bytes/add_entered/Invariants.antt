use Rattle.sig_auto.proofs.Common.{ℕ, ◌-◌, length, EnteredOn, Holds, AddsCuts, AddsLive, ByteClass}
use Rattle.sig_auto.proofs.bytes.add_entered.Given as goal

-- with what the cells from here on add, all is added
abbrev pub invariant-loop-at : goal.invariant-loop-at
invariant-loop-at l = record {
  live : (all : ByteClass) → AddsLive l.live all (EnteredOn l.cells l.at) → AddsLive l.fn.live all (EnteredOn l.cells l.from);
  cuts : (all : ByteClass) → AddsCuts l.cuts all (EnteredOn l.cells l.at) → AddsCuts l.fn.cuts all (EnteredOn l.cells l.from);
  kept : (b : ℕ) → Holds l.fn.cuts b → Holds l.cuts b;
}

abbrev pub decreases-loop-at : goal.decreases-loop-at
decreases-loop-at l = length l.cells - l.at
