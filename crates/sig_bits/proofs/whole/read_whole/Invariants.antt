use Rattle.std.proofs.Common.{◌≡◌, ◌≤◌, ◌+◌, take, vec_len}
use Rattle.sig_bits.specs.Device.{Gives}
use Rattle.sig_bits.proofs.whole.read_whole.Given as goal

-- the filled front of the buffer is what the input has given, and as long as what it may still give has fallen
abbrev pub invariant-pieces : goal.invariant-pieces
invariant-pieces g l = record {
  within : l.filled ≤ vec_len l.bytes;
  failed : g.R.Input.failed l.input ≡ g.R.Input.failed l.initial.input;
  lowered : g.R.Input.limit l.initial.input ≡ l.filled + g.R.Input.limit l.input;
  given : Gives (g.R.Input.to_come l.initial.input) (take l.filled l.bytes.items) (g.R.Input.to_come l.input);
}

-- each read lowers what may still come
abbrev pub decreases-pieces : goal.decreases-pieces
decreases-pieces g l = g.R.Input.limit l.input
