use Rattle.sig_scan.proofs.Common.{ap, arith, longest_of}
use Rattle.sig_scan.proofs.LengthLemmas.{alternatives-next}
use Rattle.sig_scan.proofs.lengths.span_of_any.Goals as goal

pub length_of_parts-requires : goal.length_of_parts-requires
length_of_parts-requires c =
    let i = c.loop-alternative.alternative-index in
    let next = ap longest_of (alternatives-next (λ v. v.items) c.as_slice-alternative-items.result.now c.args.alternatives.now i
    c.alternative-item.result c.loop-alternative-test.true c.alternative-item.is c.as_slice-alternative-items.ensures) in
    let all = c.loop-alternative.invariant in
    let most = c.requires in
    rw c.as_slice.ensures.value (omega arith)

pub loop-alternative-preserved : goal.loop-alternative-preserved
loop-alternative-preserved c =
    let i = c.loop-alternative.alternative-index in
    let next = ap longest_of (alternatives-next (λ v. v.items) c.as_slice-alternative-items.result.now c.args.alternatives.now i
    c.alternative-item.result c.loop-alternative-test.true c.alternative-item.is c.as_slice-alternative-items.ensures) in
    let all = c.loop-alternative.invariant in
    let here = rw c.as_slice.ensures.value at c.length_of_parts.ensures in
    let greatest = c.max-greatest.ensures in
    omega arith
