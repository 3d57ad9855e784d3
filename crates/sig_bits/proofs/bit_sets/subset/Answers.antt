use Rattle.std.proofs.Common.{◌+◌, length, subst, arith}
use Rattle.std.proofs.lemmas.Bool.{false≢true}
use Rattle.sig_bits.specs.Joined.{IsJoined, missing_at}
use Rattle.sig_bits.proofs.BitLemmas.{every_bit, not_every_bit}
use Rattle.sig_bits.proofs.JoinLemmas.{joined_none, joined_on, is_zero}
use Rattle.sig_bits.proofs.bit_sets.subset.Goals as goal

pub loop-from-init : goal.loop-from-init
loop-from-init c = (omega arith, joined_none (missing_at c.args.a.now c.args.b.now) 0)

pub loop-from-preserved : goal.loop-from-preserved
loop-from-preserved c =
    let lanes = subst (IsJoined (missing_at c.args.a.now c.args.b.now) c.loop-from.from (c.loop-from.from + 32)) c.if-missing_lanes-ne0.false
    c.missing_lanes.ensures in (
      omega arith,
      joined_on (missing_at c.args.a.now c.args.b.now) 0 c.loop-from.from (c.loop-from.from + 32) 0 (omega arith) (omega arith)
          c.loop-from.invariant.1 lanes,
    )

pub returns-then-missing_lanes-ne0 : goal.returns-then-missing_lanes-ne0
returns-then-missing_lanes-ne0 c =
    let found = c.missing_lanes.ensures.some c.if-missing_lanes-ne0.true in (
      λ t. absurd (false≢true t),
      λ every. absurd (not_every_bit c.args.a.now c.args.b.now found.0 (omega (arith, c.type_inv.a found.0))
          (omega (arith, c.type_inv.b found.0)) found.1.2 every),
    )

pub returns : goal.returns
returns c =
    let whole = joined_on (missing_at c.args.a.now c.args.b.now) 0 c.loop-from.from (length c.args.a.now) c.joined_missing.result (omega arith)
    c.loop-from.invariant.0 c.loop-from.invariant.1 c.joined_missing.ensures in
    is_zero c.joined_missing.result _ (λ none. every_bit c.args.a.now c.args.b.now (λ k. omega (arith, c.type_inv.b k))
    (λ k within. whole.none none k (omega arith) within))
    (λ some. let found = whole.some some in not_every_bit c.args.a.now c.args.b.now found.0 (omega (arith, c.type_inv.a found.0))
    (omega (arith, c.type_inv.b found.0)) found.1.2)
