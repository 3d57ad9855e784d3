use Rattle.sig_scan.proofs.Common.{arith, IsEitherOf}
use Rattle.sig_scan.proofs.LiteralLemmas.{BeginsWith-more}
use Rattle.sig_scan.proofs.literal.copy_run.Goals as goal

pub loop-k-preserved : goal.loop-k-preserved
loop-k-preserved c =
    let few = c.loop-k-test.true in
    let items = c.min.ensures in
    let most = c.min-most.ensures in
    let text = c.loop-k.auto.text in
    let other = c.loop-k.auto.other in
    let either : IsEitherOf c.index-items-k.result c.in-Some.a c.in-Some.b = rw (c.in-Some.a-is, c.in-Some.b-is) c.in-Some.ensures in
    BeginsWith-more c.args.items.now c.loop-k.text c.loop-k.other c.loop-k.k c.in-Some.a c.in-Some.b c.index-items-k.result (omega arith) (omega arith)
    (omega arith) c.index-items-k.is either c.loop-k.invariant
