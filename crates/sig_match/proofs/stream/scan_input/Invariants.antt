use Rattle.std.proofs.Common.{◌≡◌, vec_len}
use Rattle.sig_match.proofs.ScanLemmas.{IsFed}
use Rattle.sig_match.proofs.stream.scan_input.Given as goal

-- what is fed is what the input has given
abbrev pub invariant-pieces : goal.invariant-pieces
invariant-pieces g l = record {
  fed : IsFed l.scan l.table (g.R.Input.to_come l.fn.input) (g.R.Input.to_come l.input);
  room : vec_len l.piece ≡ 262144;
  failed : g.R.Input.failed l.input ≡ g.R.Input.failed l.fn.input;
}

-- each read lowers what may still come
abbrev pub decreases-pieces : goal.decreases-pieces
decreases-pieces g l = g.R.Input.limit l.input
