use Rattle.sig_scan.proofs.Common.{take, ◌-◌, ◌≡◌, List, arith, drop, length, rules, ℕ, length-drop, take_all, Item, ◌+◌, subst, AreFixed, BeginsWith, sym}
use Rattle.sig_scan.proofs.Common.{IsLiteralOf, LiteralView}
use Rattle.sig_scan.proofs.LiteralLemmas.{AreFixed-next, AreFixed-none, IsLiteralOf-behind}
use Rattle.sig_scan.proofs.literal.Literal.of.Goals as goal
use Rattle.sig_scan.proofs.literal.Literal.of.Goals.{else-end-i, then-end-i}

-- the items from one on
rest_is : (items : List Item) (i : ℕ) → take (length items - i) (drop i items) ≡ drop i items
rest_is items i = take_all (length items - i) (drop i items) (rw length-drop (omega arith))

pub loop-i-init : goal.loop-i-init
loop-i-init c = record { best = search rules; few = omega arith; fixed = AreFixed-none c.args.items.now }

pub loop-i-preserved : goal.loop-i-preserved
loop-i-preserved c =
    let items = c.args.items.now in
    let i : ℕ = c.loop-i.i in
    let least = c.loop-i.auto.i in
    let last : i - 1 + 1 ≡ i = omega arith in
    let fixed = subst (λ n. AreFixed (take n items) c.in-Some.next) last
    (AreFixed-next items (i - 1) c.loop-i.at c.in-Some.next c.index-items-i.result (omega arith) c.index-items-i.is c.in-Some.ensures.order
    c.in-Some.ensures.long
    c.loop-i.invariant.fixed) in
    let Best : LiteralView → Type 0 = IsLiteralOf items in
    record {
      best = elim c.if-end-i.branch [
        | then-end-i w ↦ subst Best (sym w.best-is) (w.rarer-best.ensures items c.loop-i.invariant.best
            (IsLiteralOf-behind items i c.in-Some.next w.run_of-here.result w.run_of-here.ensures.at fixed
            (subst (λ (l : List Item). BeginsWith l w.run_of-here.result.text w.run_of-here.result.other) (rest_is items i) w.run_of-here.ensures.begins)))
        | else-end-i w ↦ subst Best (sym w.best-is) c.loop-i.invariant.best
      ];
      few = c.in-Some.ensures.few;
      fixed = let same : i ≡ i + 1 - 1 = omega arith in subst (λ n. AreFixed (take n items) c.in-Some.next) same fixed;
    }
