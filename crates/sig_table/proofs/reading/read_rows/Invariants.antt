use Rattle.std.proofs.Common.{◌≡◌, ◌+◌, ◌≤◌, ◌^◌, length}
use Rattle.sig_table.specs.Judging.{judged}
use Rattle.sig_table.proofs.reading.read_rows.Given as goal

-- from the rows so far the records to come go on to the same answer, and rows and records together are no more than they were
abbrev pub invariant-rows : goal.invariant-rows
invariant-rows g l = record {
  goes : judged g.R.FromRows.judge 1 l.fn.start l.fn.records ≡ judged g.R.FromRows.judge l.row_number l.rows l.records;
  few : l.row_number + length l.records ≤ 2 ^ 63 + 1;
}

-- each read takes a record off
abbrev pub decreases-rows : goal.decreases-rows
decreases-rows g l = length l.records
