use Rattle.sig_table.specs.Loading.{records_of}
use Rattle.sig_lint.proofs.TableLemmas.{IfOk-map, first_is, lint_agrees, none_is}
use Rattle.sig_lint.proofs.linter.lint.Goals as goal

pub returns-clause-first : goal.returns-clause-first
returns-clause-first c = IfOk-map c.all_faults.result (λ faults is. first_is faults.items _ _
    (lint_agrees (records_of c.args.signatures.now) (records_of c.args.priorities.now)) is) c.all_faults.ensures

pub returns-clause-none : goal.returns-clause-none
returns-clause-none c = IfOk-map c.all_faults.result (λ faults is. none_is faults.items _ _
    (lint_agrees (records_of c.args.signatures.now) (records_of c.args.priorities.now)) is) c.all_faults.ensures
