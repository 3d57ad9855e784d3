use Rattle.sig_scan.proofs.Common.{◌≡◌, ◌<◌, List, Option, ℕ, Gives, length}
use Rattle.sig_scan.proofs.ReadLemmas.{IsRead}
use Rattle.sig_scan.proofs.block_core.scan_on.Given as goal

-- what is read is what the input has given
abbrev pub invariant-reads : goal.invariant-reads
invariant-reads g l = record {
  read : (before : Option (List ℕ)) → Gives before l.fn.buffer.bytes (g.R.Input.to_come l.fn.input)
      → IsRead l.scan l.table before (g.R.Input.to_come l.input);
  room : l.scan.keep < l.scan.buffer.room;
  len : length l.scan.may_hit ≡ length l.table.signatures;
}

-- each block but the last lowers what may still come
abbrev pub decreases-reads : goal.decreases-reads
decreases-reads g l = g.R.Input.limit l.input
