use Rattle.std.proofs.Common.{◌≡◌, arith, length}
use Rattle.sig_match.proofs.MarkLemmas.{MarksBelow-none, MarksBelow-push, MarksHits-from_below}
use Rattle.sig_match.proofs.whole.search.which_hit.Goals as goal

pub loop-index-init : goal.loop-index-init
loop-index-init c = record { len = c.in_ok-marks.ensures.len; marks = MarksBelow-none c.args.table.now c.args.file.now c.in_ok-marks.marks.items }

pub loop-index-preserved : goal.loop-index-preserved
loop-index-preserved c =
    let inv = c.loop-index.invariant in
    let len : length c.loop-index.marks.items ≡ c.loop-index.index = let ok = c.loop-index.marks.ok.0 in omega arith in
    record {
      len = omega (arith, c.in_ok-push.ensures.len);
      marks = rw c.in_ok-push.ensures.items (MarksBelow-push c.args.table.now c.args.file.now c.loop-index.index c.loop-index.marks.items c.in_ok-is_hit.field-0
          len c.in_ok-is_hit.ensures.0 c.in_ok-is_hit.ensures.1 inv.marks);
    }

pub returns-clause-marks : goal.returns-clause-marks
returns-clause-marks c =
    let inv = c.loop-index.invariant in
    let all : length c.args.table.now.signatures ≡ c.loop-index.index = omega arith in
    let len : length c.loop-index.marks.items ≡ c.loop-index.index = let ok = c.loop-index.marks.ok.0 in omega arith in
    MarksHits-from_below c.args.table.now c.args.file.now c.loop-index.index c.loop-index.marks.items all len inv.marks
