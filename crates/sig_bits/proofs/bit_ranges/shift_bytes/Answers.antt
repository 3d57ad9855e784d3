use Rattle.std.proofs.Common.{◌≡◌, ◌≢◌, ◌<◌, ⊎_elim, ap, ◌∙◌, arith, length, bit_or, get_or-set_same, get_or-set_other}
use Rattle.std.proofs.lemmas.Bool.{cases_eq}
use Rattle.sig_bits.proofs.RangeLemmas.{HasBit-shifted, shifted_at}
use Rattle.sig_bits.proofs.bit_ranges.shift_bytes.Goals as goal

pub loop-k-preserved : goal.loop-k-preserved
unfolding shifted_at
loop-k-preserved c =
    let within : c.loop-k.k < length c.loop-k.dst = omega arith in
    record {
      shifted = λ m low high. ⊎_elim
          (λ (same : m ≡ c.loop-k.k).
          rw same (get_or-set_same c.loop-k.dst c.loop-k.k _ 0 within ∙ ap (λ x. bit_or x (shifted_at c.args.src.now c.loop-k.k))
          (c.loop-k.invariant.behind c.loop-k.k (omega arith))))
          (λ (other : m ≢ c.loop-k.k). get_or-set_other c.loop-k.dst c.loop-k.k m _ 0 other ∙ c.loop-k.invariant.shifted m low (omega arith))
          (cases_eq m c.loop-k.k);
      before = λ m low. get_or-set_other c.loop-k.dst c.loop-k.k m _ 0 (omega arith) ∙ c.loop-k.invariant.before m low;
      behind = λ m high. get_or-set_other c.loop-k.dst c.loop-k.k m _ 0 (omega arith) ∙ c.loop-k.invariant.behind m (omega arith);
    }

pub returns : goal.returns
returns c =
    HasBit-shifted c.loop-k.dst c.args.dst.now c.args.src.now c.args.first c.args.last c.requires.order (λ m. omega (arith, c.type_inv.src m))
    (λ m low high. c.loop-k.invariant.shifted m low (omega arith)) c.loop-k.invariant.before (λ m high. c.loop-k.invariant.behind m (omega arith))
