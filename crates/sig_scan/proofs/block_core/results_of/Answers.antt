use Rattle.sig_scan.proofs.Common.{◌≡◌, ◌∙◌, Bool, List, arith, length, subst, sym, MarksHits}
use Rattle.sig_scan.proofs.ReadLemmas.{MarksHits-from_marked, written}
use Rattle.sig_scan.proofs.block_core.results_of.Goals as goal

pub returns : goal.returns
returns c file of =
    let table = c.args.table.now in
    let marks : List Bool = c.finish.new.marks in
    let long = c.finish.auto.marks ∙ c.deref_mut.ensures.len in
    let room = c.in_ok-marks.ensures.len in
    let count = c.signature_count.ensures.count in
    let all : length marks ≡ length table.signatures = omega arith in
    let same : c.deref.result.now ≡ marks = c.deref.ensures.value ∙ written marks _ _ long in
    c.of_marks.ensures file (subst (MarksHits table file) (sym same) (MarksHits-from_marked table file marks all (c.finish.ensures.marks table file of)))
