use Rattle.sig_scan.proofs.Common.{arith, length, sym, subst, ◌<◌, All-push, All-same, slice_get-within, AreHeadsOf, IsHeadOf, Head, Vec, Global}
use Rattle.sig_scan.proofs.HeadLemmas.{IsHeadOf-sequence}
use Rattle.sig_scan.proofs.head.heads_of.Goals as goal
use Rattle.sig_scan.proofs.head.heads_of.Goals.{in-Some+in_ok-push, in_default}

pub loop-sequence-preserved : goal.loop-sequence-preserved
loop-sequence-preserved c =
    let table = c.args.table.now in
    let total = c.signature_count-index-end.ensures.count in
    let index = c.loop-index.index in
    let within : index < length table.signatures = omega arith in
    let g = slice_get-within table.signatures index within in
    let same = c.sequences_of-sequence-items.ensures.of_view g.0 g.1 in
    let Heads : Vec Head Global → Type 0 = λ v. AreHeadsOf table v.items in
    elim c.match-of.branch [
      | in-Some+in_ok-push w ↦ subst Heads (sym w.heads-is)
          (All-same (IsHeadOf table) _ _ w.in_ok-push.ensures.items
          (All-push (IsHeadOf table) c.loop-sequence.heads.items w.in-Some.head c.loop-sequence.invariant
          (IsHeadOf-sequence table index c.loop-sequence.sequence-index g.0 c.sequence-item.result _ w.in-Some.head g.1 same c.loop-sequence-test.true
          c.sequence-item.is w.in-Some.ensures.signature w.in-Some.ensures.has)))
      | in_default w ↦ subst Heads (sym w.heads-is) c.loop-sequence.invariant
    ]
