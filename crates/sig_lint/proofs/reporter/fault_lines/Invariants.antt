use Rattle.std.proofs.Common.{take}
use Rattle.sig_lint.specs.Reports.{AreFaultLines}
use Rattle.sig_lint.proofs.reporter.fault_lines.Given as goal

-- a line for each fault so far
abbrev pub invariant-loop-fault : goal.invariant-loop-fault
invariant-loop-fault l = AreFaultLines (take l.fault-index l.faults) l.text.items
