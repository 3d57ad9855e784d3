use Rattle.sig_scan.proofs.Common.{◌≤◌, AreOwned}
use Rattle.sig_scan.proofs.filter.begin.Given as goal

-- what more may be found is found for a sequence that waits in the stage of an entry
abbrev pub invariant-loop-entry : goal.invariant-loop-entry
invariant-loop-entry l = record { within : l.end ≤ l.len; owned : AreOwned l.entries l.states l.len l.end l.initial.found l.found }
