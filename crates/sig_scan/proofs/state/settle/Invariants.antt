use Rattle.sig_scan.proofs.Common.{◌+◌, ◌-◌, ◌*◌, ◌≡◌, ◌≤◌, ℕ, All, List, Option, drop, length, IsBase, IsShort, TailView, SequenceView, WaitsOn}
use Rattle.sig_scan.proofs.state.settle.Given as goal

-- the sequence waits for the stages that are not done
abbrev pub invariant-steps : goal.invariant-steps
invariant-steps l = record {
  room : l.frontier ≡ l.fn.frontier;
  done : l.done ≤ length l.stages;
  waits : (s : SequenceView) (before : List ℕ) (tail : Option TailView) → IsBase before l.site.base → All (IsShort l.site.reach) l.stages
      → WaitsOn l.site.is_last s before l.site.bytes.now l.fn.state.from (drop l.fn.state.done l.stages) tail
      → WaitsOn l.site.is_last s before l.site.bytes.now l.from (drop l.done l.stages) tail;
}

abbrev pub decreases-steps : goal.decreases-steps
decreases-steps l = (length l.stages - l.done) * (l.site.limit + 1) + (l.site.limit - l.from)
