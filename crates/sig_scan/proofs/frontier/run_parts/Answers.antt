use Rattle.sig_scan.proofs.Common.{drop_all, length, arith, HasBit, AlternativeWord, PartWord}
use Rattle.sig_scan.proofs.ItemLemmas.{Carries-next}
use Rattle.sig_scan.proofs.ReachLemmas.{HasBits-from_carries}
use Rattle.sig_scan.proofs.frontier.run_parts.Goals as goal

pub loop-atom-preserved : goal.loop-atom-preserved
loop-atom-preserved c =
    let next = Carries-next AlternativeWord PartWord (λ x xs w. (λ h. h, λ h. h)) c.args.atoms.now c.loop-atom.atom-index (length c.loop-atom.next)
    c.atom-item.result
    c.args.bytes.now (HasBit c.args.ends.now) c.loop-atom.ends c.clear.new.bits c.add_part.new.ends c.copy_from_slice.new.self (omega arith)
    c.atom-item.is c.clear.ensures c.add_part.ensures c.copy_from_slice.ensures.after c.loop-atom.invariant.carries in
    record { within = next.0; carries = next.1 }

pub returns : goal.returns
returns c =
    let inv = c.loop-atom.invariant in
    HasBits-from_carries (AlternativeWord c.args.atoms.now) c.args.bytes.now (HasBit c.args.ends.now) c.loop-atom.ends inv.within
    (rw (drop_all c.loop-atom.atom-index c.args.atoms.now (omega arith)) at inv.carries)
