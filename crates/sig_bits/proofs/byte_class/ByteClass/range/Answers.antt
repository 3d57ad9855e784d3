use Rattle.std.proofs.Common.{◌≡◌, ◌<◌, ◌≤◌, refl, arith, inl, inr, ⊎_elim}
use Rattle.std.proofs.lemmas.Bool.{cases_eq}
use Rattle.sig_bits.specs.ByteClasses.{Holds}
use Rattle.sig_bits.proofs.BitLemmas.{zeros_have_no_bit}
use Rattle.sig_bits.proofs.byte_class.ByteClass.range.Goals as goal

pub loop-b-init : goal.loop-b-init
loop-b-init c = record {
  room = refl;
  set = λ j. (λ h. absurd (zeros_have_no_bit 32 j h), λ (h : (c.args.first ≤ j) × (j < c.args.first) × (j ≤ c.args.last)). absurd (omega arith));
}

pub returns : goal.returns
unfolding Holds
returns c = λ b.
    let set = c.loop-b.invariant.set b in
    (λ h. ((set.0 h).0, (set.0 h).2), λ (h : (c.args.first ≤ b) × (b ≤ c.args.last)). set.1 (omega arith))

-- the last byte is set
pub returns-2 : goal.returns-2
unfolding Holds
returns-2 c = λ b.
    let set = c.loop-b.invariant.set b in
    let joined = c.set_bit.ensures b in (
      λ h. ⊎_elim (λ (e : b ≡ c.loop-b.b). omega arith) (λ had. ((set.0 had).0, (set.0 had).2)) (joined.0 h),
      λ (h : (c.args.first ≤ b) × (b ≤ c.args.last)). joined.1 (⊎_elim (λ e. inl e) (λ other. inr (set.1 (omega arith))) (cases_eq b c.loop-b.b)),
    )
