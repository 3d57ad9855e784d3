use Rattle.sig_auto.proofs.Common.{◌≡◌, ◌<◌, ◌++◌, ap, length, map, rules, slice_index, sym, tests, ◌∙◌}
use Rattle.sig_auto.proofs.RowPushLemmas.{below_passed, below_pushed, pushed_below, pushed_row}
use Rattle.sig_auto.proofs.class_word.push_below.Goals as goal

pub loop-j-preserved-then-bytes-j-eq0 : goal.loop-j-preserved-then-bytes-j-eq0
loop-j-preserved-then-bytes-j-eq0 c =
    let within : c.loop-j.j < length c.args.bytes.now = search (rules, tests) in
    let zero : slice_index c.args.bytes.now c.loop-j.j ≡ 0 = search (rules, tests) in
    ap (λ r. map (λ v. v.items) c.loop-j.rows.items ++ r) (sym (below_passed c.args.bytes.now c.loop-j.j within zero)) ∙ c.loop-j.invariant

pub loop-j-preserved : goal.loop-j-preserved
loop-j-preserved c =
    let within : c.loop-j.j < length c.args.bytes.now = search (rules, tests) in
    let some : 0 < slice_index c.args.bytes.now c.loop-j.j = search (rules, tests) in
    pushed_below _ _ _ _ _ _
    (pushed_row (λ v. v.items) c.loop-j.rows.items c.push.new.self.items c.in_ok-row.field-0 _ c.in_ok-push.ensures.items c.in_ok-row.ensures)
    (below_pushed c.args.bytes.now c.loop-j.j within some)
    c.loop-j.invariant
