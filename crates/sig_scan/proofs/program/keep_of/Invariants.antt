use Rattle.sig_scan.proofs.Common.{[], take, ◌≤◌, AreHeld}
use Rattle.sig_scan.proofs.program.keep_of.Given as goal

-- so many bytes hold the stages so far
abbrev pub invariant-loop-stage : goal.invariant-loop-stage
invariant-loop-stage l = record { held : AreHeld l.longest (take l.stage-index l.stages) []; few : l.longest ≤ 65535 }

-- and the tails so far
abbrev pub invariant-loop-course : goal.invariant-loop-course
invariant-loop-course l = record { held : AreHeld l.longest l.stages (take l.course-index l.courses); few : l.longest ≤ 65535 }
