use Rattle.std.proofs.Common.{◌≡◌, ◌++◌, ◌+◌, ◌≤◌, ◌^◌, length}
use Rattle.sig_table.specs.Loading.{empty_table, with_record}
use Rattle.sig_lint.specs.Faults.{faults_from, row_fault}
use Rattle.sig_lint.proofs.signatures.lint_rows.Given as goal

-- the faults are those so far, and those of the records to come, and rows and records together are no more than they were
abbrev pub invariant-rows : goal.invariant-rows
invariant-rows l = record {
  goes : faults_from row_fault with_record 1 empty_table l.fn.records ≡ l.faults.items ++ faults_from row_fault with_record l.row_number l.draft l.records;
  few : l.row_number + length l.records ≤ 2 ^ 63 + 1;
}

-- each read takes a record off
abbrev pub decreases-rows : goal.decreases-rows
decreases-rows l = length l.records
