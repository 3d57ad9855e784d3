use Rattle.std.proofs.Common.{◌≡◌, ◌+◌, ◌≤◌, arith, length, rules}
use Rattle.sig_expr.specs.Words.{Word, IsAtMost}
use Rattle.sig_expr.specs.declared.item.Item.TheVariants as item
use Rattle.sig_match.specs.Frontiers.{IsWithin, Reaches}
use Rattle.sig_match.specs.Gaps.{gap_end}
use Rattle.sig_match.proofs.FrontierLemmas.{Gains-same}
use Rattle.sig_match.proofs.GapLemmas.{IsBytes-from_slice, Reaches-gap, Reaches-gap_at}
use Rattle.sig_match.proofs.whole.advance.add_after_gap.Goals as goal

pub returns : goal.returns
returns c =
    let file = c.args.file.now in
    let min_len = c.args.min in
    let max = c.args.max in
    let x = c.args.interval in
    let from : c.in-Some.from ≡ x.from + min_len = search rules in
    let to : c.greatest_end-to.result ≡ gap_end (length file) x.to max = c.greatest_end-to.ensures in
    let order : x.from ≤ x.to = omega arith in
    let in_order : IsAtMost max min_len = c.is_at_most.ensures.0 c.if-not-is_at_most.false in
    let bytes = IsBytes-from_slice c.args.file.now c.type_inv.file in
    Gains-same (IsWithin (record { from = c.in-Some.from; to = c.greatest_end-to.result })) (Reaches (Word (item.Gap min_len max)) file (IsWithin x)) _
    c.add.new.frontier.items
    (λ o h. Reaches-gap_at min_len max file x o bytes order in_order (let l = h.0 in omega arith) (let r = h.1 in omega arith))
    (λ o r. (let h = Reaches-gap min_len max file x o r in (let l = h.0 in omega arith, let u = h.1 in omega arith)))
    c.in_ok-add.ensures
