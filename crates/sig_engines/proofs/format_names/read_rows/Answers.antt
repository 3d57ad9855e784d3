use Rattle.std.proofs.Common.{◌≡◌, ◌∙◌, ◌∷◌, ap, arith, length}
use Rattle.csv.specs.Records.{fields_of}
use Rattle.sig_engines.proofs.FormatNameLemmas.{from_more, from_none, rows_fault}
use Rattle.sig_engines.proofs.format_names.read_rows.Goals as goal

pub returns-then-not-branch-clause-names : goal.returns-then-not-branch-clause-names
returns-then-not-branch-clause-names c =
    c.rows.invariant.goes ∙ from_none c.rows.row c.rows.names c.rows.records (rw c.if-not-branch.true at c.in_ok-read_next.ensures.next)

pub returns-in-Err-clause-fault : goal.returns-in-Err-clause-fault
returns-in-Err-clause-fault c =
    rows_fault _ c.rows.row c.rows.names c.rows.records _ _ c.in-Err.error c.rows.invariant.goes (rw c.if-not-branch.false at c.in_ok-read_next.ensures.next)
    c.in-Err.ensures.fault

pub rows-preserved : goal.rows-preserved
rows-preserved c =
    let next : c.rows.records ≡ fields_of c.read_next.new.record ∷ c.read_next.new.records = rw c.if-not-branch.false at c.in_ok-read_next.ensures.next in
    record {
      goes = c.rows.invariant.goes ∙ from_more c.rows.row c.rows.names _ c.rows.records _ _ next c.in-Ok.ensures.names;
      few = (let fewer = ap length next in omega arith);
    }
