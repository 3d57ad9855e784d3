use Rattle.sig_auto.proofs.Common.{arith, rules}
use Rattle.sig_auto.proofs.BuildLemmas.{rows_more}
use Rattle.sig_auto.proofs.build.count_rows.Goals as goal

pub loop-j-preserved : goal.loop-j-preserved
loop-j-preserved c = rows_more (λ v. v.items) c.args.rows.now c.loop-j.j c.loop-j.count _ c.len-count.result c.index-rows-j.result c.loop-j.invariant
    (omega arith) c.index-rows-j.is (search rules)
