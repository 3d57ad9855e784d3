use Rattle.sig_scan.proofs.Common.{drop_all, length, sym, ◌∙◌, arith, false≢true, HasBit, Lang, Word}
use Rattle.sig_scan.proofs.ItemLemmas.{Carries-next}
use Rattle.sig_scan.proofs.ReachLemmas.{HasBits-from_carries, HasBits-from_none}
use Rattle.sig_scan.proofs.frontier.run.Goals as goal

pub loop-item-preserved : goal.loop-item-preserved
loop-item-preserved c =
    let next = Carries-next Lang Word (λ x xs w. (λ h. h, λ h. h)) c.args.items.now c.loop-item.item-index (length c.loop-item.next) c.item-item.result
    c.args.bytes.now (HasBit c.args.ends.now) c.loop-item.ends c.clear.new.bits c.add_item.new.ends c.copy_from_slice.new.self (omega arith)
    c.item-item.is c.clear.ensures c.add_item.ensures c.copy_from_slice.ensures.after c.loop-item.invariant.carries in
    record { within = next.0; carries = next.1 }

pub returns-then-not-any_between : goal.returns-then-not-any_between
returns-then-not-any_between c =
    let next = Carries-next Lang Word (λ x xs w. (λ h. h, λ h. h)) c.args.items.now c.loop-item.item-index (length c.loop-item.next) c.item-item.result
    c.args.bytes.now (HasBit c.args.ends.now) c.loop-item.ends c.clear.new.bits c.add_item.new.ends c.copy_from_slice.new.self (omega arith)
    c.item-item.is c.clear.ensures c.add_item.ensures c.copy_from_slice.ensures.after c.loop-item.invariant.carries in
    HasBits-from_none (Lang c.args.items.now) _ c.args.bytes.now (HasBit c.args.ends.now) c.copy_from_slice.new.self
    (λ a within h. false≢true (sym c.if-not-any_between.true ∙ c.any_between.ensures.1 (a, (omega arith, omega arith, h)))) next.0 next.1

pub returns : goal.returns
returns c =
    let inv = c.loop-item.invariant in
    HasBits-from_carries (Lang c.args.items.now) c.args.bytes.now (HasBit c.args.ends.now) c.loop-item.ends inv.within
    (rw (drop_all c.loop-item.item-index c.args.items.now (omega arith)) at inv.carries)
