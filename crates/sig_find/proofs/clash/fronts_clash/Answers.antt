use Rattle.std.proofs.Common.{◌≡◌, ℕ, ◌+◌, ◌-◌, ◌<◌, ◌≤◌, List, length, refl, arith}
use Rattle.std.proofs.lemmas.Option.{slice_get_read}
use Rattle.sig_expr.specs.declared.item.Item.{Item}
use Rattle.sig_find.proofs.ClashLemmas.{different_never_stand}
use Rattle.sig_find.proofs.clash.fronts_clash.Goals as goal

pub returns-then-differ : goal.returns-then-differ
returns-then-differ c = λ t file first second.
    let x : List Item = c.args.x.now in
    let y : List Item = c.args.y.now in
    let from_a = c.from-a.ensures in
    let from_b = c.from-b.ensures in
    let place : ℕ = c.loop-place.place in
    let k : ℕ = place - c.from-a.result in
    let l : ℕ = place - c.from-b.result in
    let end = c.min-end.ensures in
    let begin = c.max-place.ensures in
    let within_x = c.front_length.ensures.within in
    let within_y = c.front_length-2.ensures.within in
    let low = c.loop-place.auto.place in
    let test = c.loop-place-test.true in
    let below_m : k ≤ c.front_length.result = omega arith in
    let below_n : l ≤ c.front_length-2.result = omega arith in
    let in_x : k < length x = omega arith in
    let in_y : l < length y = omega arith in
    let same : c.args.a + k ≡ c.args.b + l = omega arith in
    different_never_stand x y c.args.a c.args.b c.front_length.result c.front_length-2.result k l c.index-x-place.result c.index-y-place.result file below_m
    below_n same c.front_length.ensures.front c.front_length-2.ensures.front
    (slice_get_read x (length x) k c.index-x-place.result refl in_x c.index-x-place.is)
    (slice_get_read y (length y) l c.index-y-place.result refl in_y c.index-y-place.is) (c.differ.ensures c.if-differ.true) first second
