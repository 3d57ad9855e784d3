use Rattle.std.proofs.Common.{◌+◌, refl, slice_index, subst, arith}
use Rattle.sig_bits.specs.Joined.{IsJoined}
use Rattle.sig_bits.proofs.JoinLemmas.{joined_none, joined_on, is_not_zero}
use Rattle.sig_bits.proofs.LaneLemmas.{joined_lanes}
use Rattle.sig_bits.proofs.RangeLemmas.{none_between, some_between}
use Rattle.sig_bits.proofs.bit_ranges.any_byte.Goals as goal

pub loop-from-init : goal.loop-from-init
loop-from-init c = (omega arith, c.requires.order, joined_none (slice_index c.args.bits.now) c.args.first)

pub loop-from-preserved : goal.loop-from-preserved
loop-from-preserved c =
    let read = joined_lanes c.load.result (slice_index c.args.bits.now) c.loop-from.from c.nonzero.result c.load.ensures c.nonzero.ensures.joined in
    let lanes = subst (IsJoined (slice_index c.args.bits.now) c.loop-from.from (c.loop-from.from + 32)) c.if-nonzero-ne0.false read in (
      omega arith,
      omega arith,
      joined_on (slice_index c.args.bits.now) c.args.first c.loop-from.from (c.loop-from.from + 32) 0 c.loop-from.invariant.0
          (omega arith) c.loop-from.invariant.2 lanes,
    )

pub returns-then-nonzero-ne0 : goal.returns-then-nonzero-ne0
returns-then-nonzero-ne0 c =
    let read = joined_lanes c.load.result (slice_index c.args.bits.now) c.loop-from.from c.nonzero.result c.load.ensures c.nonzero.ensures.joined in
    let found = read.some c.if-nonzero-ne0.true in (
      λ _. some_between c.args.bits.now c.args.first c.args.last found.0 (omega arith) (omega arith) (omega (arith, c.type_inv.bits found.0)) found.1.2,
      λ _. refl,
    )

pub returns : goal.returns
returns c =
    let whole = joined_on (slice_index c.args.bits.now) c.args.first c.loop-from.from c.args.last c.joined.result c.loop-from.invariant.0
    c.loop-from.invariant.1 c.loop-from.invariant.2 c.joined.ensures in
    is_not_zero c.joined.result _ (λ none. none_between c.args.bits.now c.args.first c.args.last (whole.none none))
    (λ some. let found = whole.some some in some_between c.args.bits.now c.args.first c.args.last found.0 found.1.0 found.1.1
    (omega (arith, c.type_inv.bits found.0)) found.1.2)
