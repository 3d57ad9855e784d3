use Rattle.sig_scan.proofs.Common.{◌≡◌, ◌+◌, ◌<◌, length, take, Gives}
use Rattle.sig_scan.proofs.buffer.read_up_to.Given as goal

-- the filled front of the room is what the input has given
abbrev pub invariant-reads : goal.invariant-reads
invariant-reads g l = record {
  some : l.filled < length l.room;
  given : Gives (g.R.Input.to_come l.initial.input) (take l.filled l.room) (g.R.Input.to_come l.input);
  lowered : g.R.Input.limit l.initial.input ≡ l.filled + g.R.Input.limit l.input;
  failed : g.R.Input.failed l.input ≡ g.R.Input.failed l.initial.input;
}

-- each read but the last lowers what may still come
abbrev pub decreases-reads : goal.decreases-reads
decreases-reads g l = g.R.Input.limit l.input
