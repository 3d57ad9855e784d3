use Rattle.std.proofs.Common.{◌≡◌, ◌+◌, ◌≤◌, ◌^◌, [], length}
use Rattle.sig_engines.specs.FormatNames.{names_from}
use Rattle.sig_engines.proofs.format_names.read_rows.Given as goal

-- the names so far go on to the same answer, and rows and records together are no more than they were
abbrev pub invariant-rows : goal.invariant-rows
invariant-rows l = record {
  goes : names_from 1 [] l.fn.records ≡ names_from l.row l.names l.records;
  few : l.row + length l.records ≤ 2 ^ 63 + 1;
}

-- each read takes a record off
abbrev pub decreases-rows : goal.decreases-rows
decreases-rows l = length l.records
