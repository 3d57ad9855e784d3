use Rattle.sig_scan.proofs.Common.{map, course_in, AreLiteralsOf}
use Rattle.sig_scan.proofs.program.filter_of.Given as goal

-- the literals so far are those of stages
abbrev pub invariant-loop-sequence : goal.invariant-loop-sequence
invariant-loop-sequence l = AreLiteralsOf (map (course_in l.stages) l.courses) l.filter

abbrev pub invariant-loop-stage : goal.invariant-loop-stage
invariant-loop-stage l = AreLiteralsOf (map (course_in l.stages) l.courses) l.filter
