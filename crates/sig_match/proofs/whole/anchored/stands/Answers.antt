use Rattle.std.proofs.Common.{◌≡◌, ◌≤◌, ◌-◌, ℕ, List, [], ap, arith, length, map, take, drop, subst, sym, ◌∙◌, length-drop}
use Rattle.std.proofs.lemmas.List.{nil_from_length, take_all}
use borrow.Author.Tests.{eqb-true}
use Rattle.sig_expr.specs.declared.item.Item.{Item}
use Rattle.sig_expr.specs.declared.item.Item.TheVariants as item
use Rattle.sig_expr.specs.Words.{Lang}
use Rattle.sig_match.specs.Frontiers.{HasExactly, IsIn, Reaches}
use Rattle.sig_match.specs.Runs.{IsRun}
use Rattle.sig_match.proofs.StandLemmas.{StillToCome, StillToCome-all, StillToCome-done, StillToCome-more, StillToCome-none, stands_by_end, stands_by_run}
use Rattle.sig_match.proofs.whole.anchored.stands.Goals as goal
use Rattle.sig_match.proofs.whole.anchored.stands.Goals.{then-items-test+else-not-is_empty, else-items-test}

-- the part of a list from an index on, as a slice of it
slice_from : (items : List Item) (i : ℕ) → take (length items - i) (drop i items) ≡ drop i items
slice_from items i = take_all (length items - i) (drop i items) (let len = length-drop i items in omega arith)

pub items-init : goal.items-init
items-init c = record {
  within = omega arith;
  still = StillToCome-all c.position-position.result c.longest_of-longest.result c.items-items.result.now c.args.file.now c.starts.result
      c.add.new.frontier.items c.longest_of-longest.ensures c.starts.ensures (rw c.new-frontier.ensures.items at c.in_ok-add.ensures);
}

pub returns-then-may_end_anywhere : goal.returns-then-may_end_anywhere
returns-then-may_end_anywhere c =
    let items : List Item = c.items-items.result.now in
    let later : List Item = take (length items - c.items.done) (drop c.items.done items) in
    let run : List ℕ = c.gather_run.new.run.items in
    let is_run : IsRun later run = c.in_ok-gather_run.ensures in
    let len : length later ≤ length run = let ok = c.gather_run.new.run.ok.0 in omega arith in
    let all : drop c.items.done items ≡ map item.Byte run = sym (slice_from items c.items.done) ∙ sym (take_all (length run) later len) ∙ is_run.bytes in
    let by_run = stands_by_run c.position-position.result items (drop c.items.done items) run c.args.file.now c.items.frontier.items
    (c.may_end_anywhere.ensures c.if-may_end_anywhere.true) all c.items.invariant.still in
    let has = rw (c.deref.ensures.value, c.deref-then-may_end_anywhere.ensures.value) at c.has_run.ensures in
    let same : c.items-items.result.now ≡ c.args.sequence.now.items = c.items-items.ensures.items ∙ c.expr.ensures.items in
    rw (← same, ← c.position-position.ensures) (λ t. by_run.0 (has.0 t), λ h. has.1 (by_run.1 h))

pub items-preserved : goal.items-preserved
items-preserved c =
    let items : List Item = c.items-items.result.now in
    let n = c.in_ok-done.field-0 in
    let count = c.in_ok-done.ensures.count.1 in
    let whole = slice_from items c.items.done in
    let len = ap length whole ∙ length-drop c.items.done items in
    let P : List Item → Type 0 = λ l. HasExactly (Reaches (Lang (take n l)) c.args.file.now (IsIn c.items.frontier.items)) c.advance.new.ends.items in
    let ends = rw c.deref-in-items.ensures.value at c.in_ok-done.ensures.ends in
    record {
      within = omega arith;
      still = rw c.swap.ensures.x_after (StillToCome-more c.position-position.result items c.items.done n c.args.file.now c.items.frontier.items
          c.advance.new.ends.items c.items.invariant.still (subst P whole ends));
    }

pub returns : goal.returns
returns c =
    let items : List Item = c.items-items.result.now in
    let p = c.position-position.result in
    let file = c.args.file.now in
    let frontier = c.items.frontier.items in
    let still : StillToCome p items [] file frontier =
    elim c.items-test.branch [
      | then-items-test+else-not-is_empty w ↦ StillToCome-none p items (drop c.items.done items) file frontier
          (nil_from_length frontier (let ok = c.items.frontier.ok.0 in let none = eqb-true _ _ (sym w.is_empty.ensures ∙ w.if-not-is_empty.false) in
          omega arith)) c.items.invariant.still
      | else-items-test w ↦ StillToCome-done p items c.items.done file frontier (omega arith) c.items.invariant.still
    ] in
    let by_end = stands_by_end p items file frontier still in
    let ends = rw c.deref-2.ensures.value at c.has_end.ensures in
    let same : c.items-items.result.now ≡ c.args.sequence.now.items = c.items-items.ensures.items ∙ c.expr.ensures.items in
    rw (← same, ← c.position-position.ensures) (λ t. by_end.0 (ends.0 t), λ h. ends.1 (by_end.1 h))
