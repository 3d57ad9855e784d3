use Rattle.std.proofs.lemmas.List.{drop_all}
use Rattle.sig_expr.specs.Canon.{canon}
use Rattle.sig_expr.proofs.WritingLemmas.{wrote_nothing, wrote_more}
use Rattle.sig_expr.proofs.CanonLemmas.{canon-rest}
use Rattle.sig_expr.proofs.printer.put_items.Goals as goal

pub loop-item-preserved : goal.loop-item-preserved
loop-item-preserved g c = λ end w.
    c.loop-item.invariant end (rw (canon-rest c.args.items.now c.loop-item.item-index c.item-item.result c.loop-item-test.true, ← c.item-item.is)
    (wrote_more _ _ _ _ _ c.in_ok-put_item.ensures.wrote w))

pub returns : goal.returns
unfolding canon
returns g c =
    record { fails = tt; wrote = c.loop-item.invariant _ (rw (drop_all c.loop-item.item-index c.args.items.now c.loop-item-test.false) (wrote_nothing _)) }
