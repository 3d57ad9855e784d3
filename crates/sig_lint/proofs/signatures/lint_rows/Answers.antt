use Rattle.std.proofs.Common.{◌≡◌, ◌∷◌, ◌++◌, ◌+◌, [], true, false, ap, sym, length, ◌∙◌, rules, arith}
use Rattle.csv.specs.Records.{fields_of}
use Rattle.sig_table.specs.Loading.{with_record}
use Rattle.sig_lint.specs.Faults.{faults_from, row_fault}
use Rattle.sig_lint.proofs.FaultLemmas.{faults-end, faults-more}
use Rattle.sig_lint.proofs.signatures.lint_rows.Goals as goal

pub returns-then-not-found : goal.returns-then-not-found
returns-then-not-found c =
    let at = c.rows in
    let none : c.in_ok-found.found ≡ false = search rules in
    let left : c.rows.records ≡ [] = rw none at c.in_ok-found.ensures in
    faults-end row_fault with_record _ at.faults.items at.row_number at.draft
    (at.invariant.goes ∙ ap (λ l. at.faults.items ++ faults_from row_fault with_record at.row_number at.draft l) left)

pub rows-preserved : goal.rows-preserved
rows-preserved c =
    let at = c.rows in
    let taken = c.in_ok-taken.taken in
    let more : c.in_ok-found.found ≡ true = search rules in
    let next : c.rows.records ≡ fields_of c.read_next.new.record ∷ c.read_next.new.records = rw more at c.in_ok-found.ensures in
    record {
      goes = faults-more row_fault with_record _ at.faults.items at.row_number at.draft taken c.in_ok-taken.fault _ _
          (at.invariant.goes ∙ ap (λ l. at.faults.items ++ faults_from row_fault with_record at.row_number at.draft l) next) c.in_ok-taken.ensures
          ∙ ap (λ l. l ++ faults_from row_fault with_record (at.row_number + 1) taken c.read_next.new.records) (sym c.in_ok-faults.ensures);
      few = (let fewer = ap length next in omega arith);
    }
