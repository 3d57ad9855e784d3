use Rattle.std.proofs.Common.{◌≡◌, ℕ, ◌+◌, ◌-◌, ◌<◌, bit_or, inl, inr, refl, slice_index, subst, ◌∙◌, arith}
use Rattle.std.proofs.lemmas.Bool.{cases_lt}
use Rattle.sig_bits.proofs.BitLemmas.{HasBit-joined}
use Rattle.sig_bits.proofs.LaneLemmas.{HasLanes-zip2}
use Rattle.sig_bits.proofs.bit_sets.or_into.Goals as goal

pub loop-from-preserved : goal.loop-from-preserved
loop-from-preserved c =
    let from = c.loop-from.from in
    let old = c.args.dst.now in
    let src = c.args.src.now in
    let lanes = HasLanes-zip2 bit_or _ _ _ _ c.load.ensures c.load-in-loop-from.ensures in
    let each : (j : ℕ) → j < 32 → slice_index c.store.new.bytes (from + j) ≡ bit_or (slice_index old (from + j)) (slice_index src (from + j)) =
    λ j low. c.store.ensures.stored j low ∙ lanes.each j low
    ∙ subst (λ x. bit_or (slice_index c.loop-from.dst (from + j)) (slice_index src (from + j)) ≡ bit_or x (slice_index src (from + j)))
    (c.loop-from.invariant.kept (from + j) (omega arith)) refl in
    record {
      within = omega (arith, c.loop-from-test.true);
      joined = λ k low. elim (cases_lt k from) [
        | inl early ↦ c.store.ensures.kept k (inl early) ∙ c.loop-from.invariant.joined k early
        | inr late ↦
            let at : from + (k - from) ≡ k = omega (arith, late) in
            subst (λ i. slice_index c.store.new.bytes i ≡ bit_or (slice_index old i) (slice_index src i)) at (each (k - from) (omega (arith, late, low)))
      ];
      kept = λ k high. c.store.ensures.kept k (inr high) ∙ c.loop-from.invariant.kept k (omega (arith, high));
    }

pub returns : goal.returns
returns c =
    HasBit-joined c.loop-k.dst c.args.dst.now c.args.src.now (omega arith) (omega arith) (λ k within. c.loop-k.invariant.joined k (omega arith))
