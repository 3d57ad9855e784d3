use Rattle.std.proofs.Common.{◌≡◌, ◌+◌, ◌-◌, ◌++◌, length, take, drop, get_or, sym, ap, subst, ◌∙◌, arith, length-drop}
use Rattle.std.proofs.lemmas.List.{get_or-append-add, get_or_append_left, length-take-le}
use Rattle.std.proofs.lemmas.Simd.{get_or-put_chunk_at, length-put_chunk}
use Rattle.sig_bits.proofs.lanes.store.Goals as goal
use borrow.Rule.Slice.PartMut.{post_of}
use lib.Lanes.{put_chunk}

pub returns-clause-stored : goal.returns-clause-stored
returns-clause-stored c = λ k low.
    let from = c.args.from in
    let bytes = c.args.bytes.now in
    let long : length c.args.lanes ≡ 32 = c.fits-lanes.0 in
    let old = take (from + 32 - from) (drop from bytes) in
    let wide : length old ≡ 32 = length-take-le (from + 32 - from) (drop from bytes) (omega (arith, length-drop from bytes, c.requires)) ∙ omega arith in
    let mid = put_chunk 0 old c.args.lanes in
    let same : length mid ≡ length old = length-put_chunk 0 old c.args.lanes in
    let first : 0 + k ≡ k = omega arith in
    let rest = post_of from (from + 32 - from) bytes in
    ap (λ n. get_or (take from bytes ++ (mid ++ rest)) (n + k) 0) (sym (length-take-le from bytes (omega (arith, c.requires))))
    ∙ get_or-append-add (take from bytes) (mid ++ rest) k 0
    ∙ get_or_append_left mid rest 0 k (omega (arith, same, wide, low))
    ∙ subst (λ n. get_or mid n 0 ≡ get_or c.args.lanes k 0) first
    (get_or-put_chunk_at 0 old c.args.lanes k 0 (omega (arith, long, low)) (omega (arith, long, wide)))
