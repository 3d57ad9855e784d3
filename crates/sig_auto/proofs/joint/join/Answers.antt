use Rattle.sig_auto.proofs.Common.{refl, arith, ◌-◌}
use Rattle.std.proofs.lemmas.Grind.{common_steps}
use Rattle.sig_auto.proofs.JoinLemmas.{joined, joining_at, joints_room}
use Rattle.sig_auto.proofs.joint.join.Goals as goal

pub pass-requires-clause-front : goal.pass-requires-clause-front
pass-requires-clause-front c = (joints_room c.args.cells.now c.loop-k.k (c.loop-k.k - 1) c.loop-k.first.items c.loop-k.lands.items c.loop-k.each.items _
    c.requires.bounded c.loop-k.invariant (omega arith)).0

pub pass-requires-clause-behind : goal.pass-requires-clause-behind
pass-requires-clause-behind c = (joints_room c.args.cells.now c.loop-k.k (c.loop-k.k - 1) c.loop-k.first.items c.loop-k.lands.items c.loop-k.each.items _
    c.requires.bounded c.loop-k.invariant (omega arith)).1

pub loop-k-init : goal.loop-k-init
loop-k-init c = grind (arith, common_steps)

pub loop-k-preserved : goal.loop-k-preserved
loop-k-preserved c =
    joining_at c.args.cells.now c.loop-k.k (c.loop-k.k - 1) c.loop-k.first.items _ c.loop-k.lands.items _ c.loop-k.each.items _ c.pass.result _
    c.requires.bounded c.loop-k.invariant (omega arith)
    c.pass.ensures.enters c.pass.ensures.beside c.pass.ensures.ends refl c.pass.ensures.lands c.pass.ensures.first

pub returns : goal.returns
returns c = joined c.args.cells.now _ c.loop-k.k c.loop-k.first.items c.loop-k.lands.items c.loop-k.invariant (omega arith) c.index.ensures c.index-2.ensures
