use Rattle.sig_auto.proofs.Common.{ap, map}
use Rattle.sig_auto.proofs.RowPushLemmas.{outside_is}
use Rattle.sig_auto.proofs.class_word.outside_rows.Goals as goal

pub returns : goal.returns
returns c = outside_is _ _ _ c.args.a.now c.args.b.now (ap (map (λ v. v.items)) c.new-rows.ensures.items) c.in_ok-push_below.ensures c.in_ok-push_above.ensures
