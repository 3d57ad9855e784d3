use Rattle.std.proofs.Common.{◌≡◌, ◌∷◌, ◌++◌, ◌+◌, [], true, false, ap, sym, length, ◌∙◌, rules, arith}
use Rattle.csv.specs.Records.{fields_of}
use Rattle.sig_lint.specs.Faults.{faults_from, pair_row_fault, with_named_pair}
use Rattle.sig_lint.proofs.FaultLemmas.{faults-end, faults-more}
use Rattle.sig_lint.proofs.priorities.lint_pairs.Goals as goal

pub returns-then-not-found : goal.returns-then-not-found
returns-then-not-found c =
    let at = c.rows in
    let tell = pair_row_fault c.args.names.now in
    let judge = with_named_pair c.args.names.now in
    let none : c.in_ok-found.found ≡ false = search rules in
    let left : c.rows.records ≡ [] = rw none at c.in_ok-found.ensures in
    faults-end tell judge _ at.all.items at.row_number at.ranking.pairs
    (at.invariant.goes ∙ ap (λ l. at.all.items ++ faults_from tell judge at.row_number at.ranking.pairs l) left)

pub rows-preserved : goal.rows-preserved
rows-preserved c =
    let at = c.rows in
    let tell = pair_row_fault c.args.names.now in
    let judge = with_named_pair c.args.names.now in
    let taken = c.in_ok-taken.taken in
    let more : c.in_ok-found.found ≡ true = search rules in
    let next : c.rows.records ≡ fields_of c.read_next.new.record ∷ c.read_next.new.records = rw more at c.in_ok-found.ensures in
    record {
      goes = faults-more tell judge _ at.all.items at.row_number at.ranking.pairs taken.pairs c.in_ok-taken.fault _ _
          (at.invariant.goes ∙ ap (λ l. at.all.items ++ faults_from tell judge at.row_number at.ranking.pairs l) next) c.in_ok-taken.ensures.pairs
          ∙ ap (λ l. l ++ faults_from tell judge (at.row_number + 1) taken.pairs c.read_next.new.records) (sym c.in_ok-all.ensures);
      count = c.in_ok-taken.ensures.formats ∙ at.invariant.count;
      few = (let fewer = ap length next in omega arith);
    }
