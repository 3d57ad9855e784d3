use Rattle.std.proofs.Common.{length, take, ◌-◌, ◌≤◌}
use Rattle.sig_bits.specs.Device.{Adds}
use Rattle.sig_bits.proofs.output.write_through.Given as goal

-- what is done so far is written
abbrev pub invariant-loop-done : goal.invariant-loop-done
invariant-loop-done g l =
    (l.done ≤ length l.bytes) × Adds (g.W.Write.contents l.initial.writer) (take l.done l.bytes) (g.W.Write.contents l.writer)

abbrev pub decreases-loop-done : goal.decreases-loop-done
decreases-loop-done g l = length l.bytes - l.done
