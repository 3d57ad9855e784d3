use Rattle.sig_auto.proofs.Common.{eqb-true}
use Rattle.sig_auto.proofs.CellLemmas.{alike, same_own}
use Rattle.sig_auto.proofs.behind.Behind.leads_like.Goals as goal

pub returns-then-eq : goal.returns-then-eq
returns-then-eq c h s p q one other =
    alike s p q c.args.self.now c.args.other.now one other (same_own c.args.self.now.own c.args.other.now.own c.eq.result c.eq.ensures c.if-eq.true)
    (eqb-true c.args.self.now.enters c.args.other.now.enters h)
