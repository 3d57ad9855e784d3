use Rattle.std.proofs.Common.{◌+◌, length, refl, subst, arith}
use Rattle.sig_bits.specs.Joined.{IsJoined, common_at}
use Rattle.sig_bits.proofs.BitLemmas.{no_bit_in_both, some_bit_in_both}
use Rattle.sig_bits.proofs.JoinLemmas.{joined_none, joined_on, is_not_zero}
use Rattle.sig_bits.proofs.bit_sets.and_any.Goals as goal

pub loop-from-init : goal.loop-from-init
loop-from-init c = (omega arith, joined_none (common_at c.args.a.now c.args.b.now) 0)

pub loop-from-preserved : goal.loop-from-preserved
loop-from-preserved c =
    let lanes = subst (IsJoined (common_at c.args.a.now c.args.b.now) c.loop-from.from (c.loop-from.from + 32)) c.if-common_lanes-ne0.false
    c.common_lanes.ensures in (
      omega arith,
      joined_on (common_at c.args.a.now c.args.b.now) 0 c.loop-from.from (c.loop-from.from + 32) 0 (omega arith) (omega arith)
          c.loop-from.invariant.1 lanes,
    )

pub returns-then-common_lanes-ne0 : goal.returns-then-common_lanes-ne0
returns-then-common_lanes-ne0 c =
    let found = c.common_lanes.ensures.some c.if-common_lanes-ne0.true in
    (λ _. some_bit_in_both c.args.a.now c.args.b.now found.0 (omega (arith, c.type_inv.a found.0)) found.1.2, λ _. refl)

pub returns : goal.returns
returns c =
    let whole = joined_on (common_at c.args.a.now c.args.b.now) 0 c.loop-from.from (length c.args.a.now) c.joined_common.result (omega arith)
    c.loop-from.invariant.0 c.loop-from.invariant.1 c.joined_common.ensures in
    is_not_zero c.joined_common.result _ (λ none (i, both). no_bit_in_both c.args.a.now c.args.b.now (λ k within. whole.none none k (omega arith) within) i
    both.0 both.1)
    (λ some. let found = whole.some some in some_bit_in_both c.args.a.now c.args.b.now found.0 (omega (arith, c.type_inv.a found.0)) found.1.2)
