use Rattle.std.proofs.Common.{◌≡◌, ◌∷◌, [], true, false, ap, length, ◌∙◌, rules, arith}
use Rattle.std.proofs.lemmas.Result.{err_from_is_err_and}
use Rattle.csv.specs.Records.{fields_of}
use Rattle.sig_table.proofs.FaultLemmas.{IsFault-map}
use Rattle.sig_table.proofs.JudgingLemmas.{judged-end, judged-fault, judged-more}
use Rattle.sig_table.specs.Judging.{judged}
use Rattle.sig_table.proofs.reading.read_rows.Goals as goal

pub returns-then-not-found : goal.returns-then-not-found
returns-then-not-found g c =
    let at = c.rows in
    let none : c.in_ok-found.found ≡ false = search rules in
    let left : c.rows.records ≡ [] = rw none at c.in_ok-found.ensures.next in
    c.rows.invariant.goes ∙ ap (λ l. judged g.R.FromRows.judge at.row_number at.rows l) left ∙ judged-end g.R.FromRows.judge at.row_number at.rows

pub returns-in_err-rows : goal.returns-in_err-rows
returns-in_err-rows g c =
    let at = c.rows in
    let p = err_from_is_err_and c.from_residual-in_err-rows.result c.from_residual-in_err-rows.ensures.1 in
    let more : c.in_ok-found.found ≡ true = search rules in
    let next : c.rows.records ≡ fields_of c.read.new.fields ∷ c.read.new.self = rw more at c.in_ok-found.ensures.next in
    rw (p.1, p.2) (IsFault-map _ _ _ (λ fault. c.rows.invariant.goes ∙ ap (λ l. judged g.R.FromRows.judge at.row_number at.rows l) next
    ∙ judged-fault g.R.FromRows.judge at.row_number at.rows _ _ _ fault) c.in_err-rows.ensures)

pub rows-preserved : goal.rows-preserved
rows-preserved g c =
    let at = c.rows in
    let more : c.in_ok-found.found ≡ true = search rules in
    let next : c.rows.records ≡ fields_of c.read.new.fields ∷ c.read.new.self = rw more at c.in_ok-found.ensures.next in
    record {
      goes = c.rows.invariant.goes ∙ ap (λ l. judged g.R.FromRows.judge at.row_number at.rows l) next
          ∙ judged-more g.R.FromRows.judge at.row_number at.rows _ _ _ c.in_ok-rows.ensures;
      few = (let fewer = ap length next in omega arith);
    }
