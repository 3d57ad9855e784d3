use Rattle.sig_scan.proofs.Common.{All, map, AreHeld, IsBoundedCourse, StandsIn, course_in, ◌≡◌, length}
use Rattle.sig_scan.proofs.CompiledLemmas.{AreAdded}
use Rattle.sig_scan.proofs.program.Program.of.Given as goal

-- the courses so far are those of the sequences of the signatures before
abbrev pub invariant-loop-index : goal.invariant-loop-index
invariant-loop-index l = record {
  within : All (StandsIn l.stages.items) l.courses.items;
  held : AreHeld 65535 l.stages.items l.courses.items;
  bounded : All IsBoundedCourse (map (course_in l.stages.items) l.courses.items);
  count : length l.owners.items ≡ length l.courses.items;
  added : AreAdded l.table l.may_hit l.index 0 l.owners.items (map (course_in l.stages.items) l.courses.items);
}

-- and of the sequences before
abbrev pub invariant-loop-sequence : goal.invariant-loop-sequence
invariant-loop-sequence l = record {
  within : All (StandsIn l.stages.items) l.courses.items;
  held : AreHeld 65535 l.stages.items l.courses.items;
  bounded : All IsBoundedCourse (map (course_in l.stages.items) l.courses.items);
  count : length l.owners.items ≡ length l.courses.items;
  added : AreAdded l.table l.may_hit l.index l.sequence-index l.owners.items (map (course_in l.stages.items) l.courses.items);
}
