use Rattle.std.proofs.Common.{◌≡◌, ◌++◌, ◌+◌, ◌≤◌, ◌^◌, [], length}
use Rattle.sig_lint.specs.Faults.{faults_from, pair_row_fault, with_named_pair}
use Rattle.sig_lint.specs.Names.{formats_among}
use Rattle.sig_lint.proofs.priorities.lint_pairs.Given as goal

-- the faults are those so far, and those of the records to come, and rows and records together are no more than they were
abbrev pub invariant-rows : goal.invariant-rows
invariant-rows l = record {
  goes : l.fn.faults.items ++ faults_from (pair_row_fault l.names) (with_named_pair l.names) 1 [] l.fn.records ≡ l.all.items ++ faults_from
      (pair_row_fault l.names) (with_named_pair l.names) l.row_number l.ranking.pairs l.records;
  count : l.ranking.format_count ≡ length (formats_among l.names);
  few : l.row_number + length l.records ≤ 2 ^ 63 + 1;
}

-- each read takes a record off
abbrev pub decreases-rows : goal.decreases-rows
decreases-rows l = length l.records
