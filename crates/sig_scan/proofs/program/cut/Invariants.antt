use Rattle.sig_scan.proofs.Common.{◌≡◌, ◌++◌, [], drop, ◌≤◌, slice_range, stages_of}
use Rattle.sig_scan.proofs.program.cut.Given as goal

-- the items behind the last unbounded gap so far are those before the next ones
abbrev pub invariant-loop-i : goal.invariant-loop-i
invariant-loop-i l = record {
  in_range : l.begin ≤ l.i;
  same : l.stages.items ++ stages_of l.until (slice_range l.items l.begin l.i) (drop l.i l.items) ≡ l.initial.stages.items ++ stages_of
      l.initial.until [] l.items;
}
