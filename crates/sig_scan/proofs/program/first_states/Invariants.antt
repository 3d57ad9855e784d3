use Rattle.sig_scan.proofs.Common.{◌≡◌, length, map, course_in, AreFirst}
use Rattle.sig_scan.proofs.program.first_states.Given as goal

-- the sequences so far have their states
abbrev pub invariant-loop-course : goal.invariant-loop-course
invariant-loop-course l = record {
  count : length l.states.items ≡ l.course-index;
  first : AreFirst (map (course_in l.stages) l.courses) l.states.items;
}
