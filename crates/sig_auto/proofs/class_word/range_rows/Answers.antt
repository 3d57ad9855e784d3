use Rattle.sig_auto.proofs.Common.{◌≡◌, ◌<◌, ◌≤◌, ap, false, length, map, min, nat_eq, refl, rules, slice_index, sym, tests, ◌∙◌, between}
use Rattle.sig_auto.proofs.RowPushLemmas.{agree_more, behind_none, between_differs, between_ended, between_passed, pushed_row, range_is}
use Rattle.sig_auto.proofs.class_word.range_rows.Goals as goal

pub loop-j-init : goal.loop-j-init
loop-j-init c = record {
  agreed = refl;
  none = c.new-rows.ensures.items;
  rest = sym (behind_none (between c.args.a.now c.args.b.now));
}

pub loop-j-preserved : goal.loop-j-preserved
loop-j-preserved c =
    let in_a : c.loop-j.j < length c.args.a.now = search (rules, tests) in
    let in_b : c.loop-j.j < length c.args.b.now = search (rules, tests) in
    let same : slice_index c.args.a.now c.loop-j.j ≡ slice_index c.args.b.now c.loop-j.j = search (rules, tests) in
    record {
      agreed = agree_more c.args.a.now c.args.b.now c.loop-j.j in_a in_b c.loop-j.invariant.agreed same;
      none = c.loop-j.invariant.none;
      rest = c.loop-j.invariant.rest ∙ between_passed c.args.a.now c.args.b.now c.loop-j.j in_a in_b same;
    }

pub returns-then-a-j : goal.returns-then-a-j
returns-then-a-j c =
    let in_a : c.loop-j.j < length c.args.a.now = search (rules, tests) in
    let in_b : c.loop-j.j < length c.args.b.now = search (rules, tests) in
    let differ : nat_eq (slice_index c.args.a.now c.loop-j.j) (slice_index c.args.b.now c.loop-j.j) ≡ false = search (rules, tests) in
    range_is _ _ _ _ _ _ _ _ _ _ _
    (ap (map (λ v. v.items)) c.loop-j.invariant.none)
    (pushed_row (λ v. v.items) c.loop-j.rows.items c.push.new.self.items c.in_ok-only_these.field-0 _ c.in_ok-push.ensures.items c.in_ok-only_these.ensures)
    c.in_ok-push_above.ensures
    c.in_ok-push_inner.ensures
    c.in_ok-push_below.ensures
    (pushed_row (λ v. v.items) c.push_below.new.rows.items c.push-then-a-j.new.self.items c.in_ok-only_these-2.field-0 _ c.in_ok-push-2.ensures.items
    c.in_ok-only_these-2.ensures)
    ∙ sym (c.loop-j.invariant.rest ∙ between_differs c.args.a.now c.args.b.now c.loop-j.j in_a in_b c.loop-j.invariant.agreed differ)

pub returns : goal.returns
returns c =
    let out : min (length c.args.a.now) (length c.args.b.now) ≤ c.loop-j.j = search (rules, tests) in
    ap (map (λ v. v.items)) c.loop-j.invariant.none ∙ sym (c.loop-j.invariant.rest ∙ between_ended c.args.a.now c.args.b.now c.loop-j.j out)
