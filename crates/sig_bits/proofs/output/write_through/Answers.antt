use Rattle.std.proofs.Common.{arith, length-drop}
use Rattle.std.proofs.lemmas.List.{take_rest}
use Rattle.sig_bits.proofs.DeviceLemmas.{Adds-more}
use Rattle.sig_bits.proofs.output.write_through.Goals as goal

pub loop-done-preserved : goal.loop-done-preserved
loop-done-preserved g c =
    let within = simp (take_rest, length-drop) at c.in-Ok.ensures.bound in
    let bytes = rw take_rest at c.in-Ok.ensures.bytes in
    (omega arith, Adds-more _ _ _ c.args.bytes.now c.loop-done.done c.in-Ok.n c.loop-done.invariant.1 bytes)
