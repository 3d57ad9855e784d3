use Rattle.sig_auto.proofs.Common.{◌≡◌, ℕ, ◌+◌, ◌<◌, Some, slice_get, Cell, SameSide, Holds}
use Rattle.sig_auto.proofs.bytes.add_all_cuts.Given as goal

abbrev pub invariant-loop-cell : goal.invariant-loop-cell
invariant-loop-cell l = record {
  cuts : (b : ℕ) → b + 1 < 256 → ¬ Holds l.cuts (b + 1)
      → (¬ Holds l.fn.cuts (b + 1)) × ((k : ℕ) (c : Cell) → k < l.cell-index → slice_get l.cells k ≡ Some c → SameSide c.class b (b + 1));
  kept : (b : ℕ) → Holds l.fn.cuts b → Holds l.cuts b;
}
