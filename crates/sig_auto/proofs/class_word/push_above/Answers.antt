use Rattle.sig_auto.proofs.Common.{◌≡◌, ◌<◌, ◌+◌, ◌-◌, ◌++◌, ap, arith, length, map, rules, slice_index, tests, ◌∙◌}
use Rattle.sig_auto.proofs.RowPushLemmas.{above_passed, above_pushed, pushed_above, pushed_row}
use Rattle.sig_auto.proofs.class_word.push_above.Goals as goal

pub loop-j-preserved-then-bytes-j : goal.loop-j-preserved-then-bytes-j
loop-j-preserved-then-bytes-j c =
    let more : c.args.agreed < c.loop-j.j = search (rules, tests) in
    let most : slice_index c.args.bytes.now (c.loop-j.j - 1) ≡ 255 = search (rules, tests) in
    let down : c.loop-j.j ≡ c.loop-j.j - 1 + 1 = omega (arith, more) in
    let within : c.loop-j.j - 1 < length c.args.bytes.now = omega (arith, more, c.loop-j.invariant.within) in
    record {
      within = omega (arith, within);
      agreed = omega (arith, more);
      pushed = c.loop-j.invariant.pushed ∙ ap (λ r. map (λ v. v.items) c.args.rows.now.items ++ r)
          (above_passed c.args.bytes.now (c.loop-j.j - 1) c.loop-j.j down within most);
    }

pub loop-j-preserved : goal.loop-j-preserved
loop-j-preserved c =
    let more : c.args.agreed < c.loop-j.j = search (rules, tests) in
    let less : slice_index c.args.bytes.now (c.loop-j.j - 1) < 255 = search (rules, tests) in
    let down : c.loop-j.j ≡ c.loop-j.j - 1 + 1 = omega (arith, more) in
    let within : c.loop-j.j - 1 < length c.args.bytes.now = omega (arith, more, c.loop-j.invariant.within) in
    record {
      within = omega (arith, within);
      agreed = omega (arith, more);
      pushed = pushed_above _ _ _ _ _ _
          (pushed_row (λ v. v.items) c.loop-j.rows.items c.push.new.self.items c.in_ok-row.field-0 _ c.in_ok-push.ensures.items c.in_ok-row.ensures)
          (above_pushed c.args.bytes.now (c.loop-j.j - 1) c.loop-j.j down within less)
          c.loop-j.invariant.pushed;
    }
