use Rattle.sig_table.specs.Loading.{with_record}
use Rattle.sig_lint.specs.Faults.{pair_row_fault, row_fault, with_named_pair}
use Rattle.sig_lint.proofs.FaultLemmas.{faults_from-append}
use Rattle.sig_lint.proofs.laws.rows_are_judged_behind_faultless_ones.Goals as goal

pub returns-clause-rows : goal.returns-clause-rows
returns-clause-rows c n t earlier later fields = faults_from-append row_fault with_record earlier n t fields later

pub returns-clause-pairs : goal.returns-clause-pairs
returns-clause-pairs c names n pairs earlier later fields = faults_from-append (pair_row_fault names) (with_named_pair names) earlier n pairs fields later
