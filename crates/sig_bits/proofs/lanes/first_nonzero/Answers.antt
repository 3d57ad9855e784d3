use Rattle.std.proofs.Common.{◌≡◌, ◌≢◌, ◌↔◌, arith, subst}
use Rattle.std.specs.Int.{bit_at}
use Rattle.std.proofs.lemmas.Nat.{shr_le}
use Rattle.sig_bits.proofs.LaneLemmas.{at_0, first_is_left, none_is_left}
use Rattle.sig_bits.proofs.lanes.first_nonzero.Goals as goal

pub returns-then-later-eq0 : goal.returns-then-later-eq0
returns-then-later-eq0 c =
    none_is_left c.args.bytes.now c.nonzero.result c.args.from (omega arith)
    (λ k low. subst (λ x. (bit_at c.nonzero.result k ≡ 1) ↔ (x ≢ 0)) (at_0 c.args.bytes.now c.load.result c.load.ensures k low) (c.nonzero.ensures.each k low))
    c.if-later-eq0.true

pub returns-else-later-eq0 : goal.returns-else-later-eq0
returns-else-later-eq0 c =
    let found = first_is_left c.args.bytes.now c.nonzero.result c.args.from (omega arith)
    (λ k low. subst (λ x. (bit_at c.nonzero.result k ≡ 1) ↔ (x ≢ 0)) (at_0 c.args.bytes.now c.load.result c.load.ensures k low) (c.nonzero.ensures.each k low))
    c.nonzero.ensures.few (omega (arith, c.nonzero.ensures.few, shr_le c.nonzero.result c.args.from)) c.if-later-eq0.false in
    (omega arith, found.0, found.1, found.2)
