use Rattle.sig_scan.proofs.Common.{◌≡◌, ◌≤◌, ◌∙◌, All, All-push, List, arith, length, subst, sym, take, length-map, take_all, Atom, parts_length}
use Rattle.sig_scan.proofs.LengthLemmas.{alternatives-taken}
use Rattle.sig_scan.proofs.lengths.fixed_length_of_any.Goals as goal

pub loop-parts-preserved : goal.loop-parts-preserved
loop-parts-preserved c =
    let all : List (List Atom) = c.args.alternatives.now in
    let i = c.loop-parts.parts-index in
    let P : List Atom → Type 0 = λ a. parts_length a ≡ c.in_ok-len.len in
    let len = rw c.as_slice-in-loop-parts.ensures.value at c.in_ok-length_of_all.ensures in
    subst (All P) (sym (alternatives-taken (λ v. v.items) c.as_slice-all.result.now all i c.parts-item.result c.loop-parts-test.true c.parts-item.is
    c.as_slice-all.ensures)) (All-push P (take i all) c.parts-item.result.items c.loop-parts.invariant (sym len ∙ c.if-branch-len.false))

pub returns : goal.returns
returns c =
    let all : List (List Atom) = c.args.alternatives.now in
    let len : length all ≡ length c.as_slice-all.result.now = rw (← c.as_slice-all.ensures) (length-map c.as_slice-all.result.now (λ v. v.items)) in
    let done : length all ≤ c.loop-parts.parts-index = omega arith in
    subst (All (λ a. parts_length a ≡ c.in_ok-len.len)) (take_all c.loop-parts.parts-index all done) c.loop-parts.invariant
