use Rattle.sig_scan.proofs.Common.{arith, drop, false, false≢true, drop_all}
use Rattle.sig_scan.proofs.StateLemmas.{InTurn-beyond, InTurn-end, InTurn-tail, Stands-left}
use Rattle.sig_scan.proofs.state.stands.Goals as goal

pub returns-then-settled-stages-clause-stands : goal.returns-then-settled-stages-clause-stands
returns-then-settled-stages-clause-stands c s before base short tail_short last waits =
    let t = c.settle-settled.result in
    let far = c.settle-settled.ensures.settled c.if-settled-stages.true in
    Stands-left s before c.args.bytes.now t.from (drop t.done c.args.stages.now) c.args.tail.now false
    (c.settle-settled.ensures.waits s before c.args.tail.now base short waits) (
      λ no. absurd (false≢true no),
      λ turn. absurd (InTurn-beyond before c.args.bytes.now t.from t.done c.args.stages.now c.args.tail.now (omega arith) c.if-settled-stages.true turn),
    )

pub returns-in-Some-clause-stands : goal.returns-in-Some-clause-stands
returns-in-Some-clause-stands c s before base short tail_short last waits =
    let t = c.settle-settled.result in
    let left = drop t.done c.args.stages.now in
    let end = drop_all t.done c.args.stages.now c.if-settled-stages.false in
    Stands-left s before c.args.bytes.now t.from left c.args.tail.now c.tail_stands.result
    (c.settle-settled.ensures.waits s before c.args.tail.now base short waits)
    (InTurn-tail before c.args.bytes.now t.from c.args.reach left c.args.tail.now c.in-Some.tail c.tail_stands.result end c.in-Some.is tail_short last
    c.tail_stands.ensures.stands)

pub returns-in-None-clause-stands : goal.returns-in-None-clause-stands
returns-in-None-clause-stands c s before base short tail_short last waits =
    let t = c.settle-settled.result in
    let left = drop t.done c.args.stages.now in
    let end = drop_all t.done c.args.stages.now c.if-settled-stages.false in
    Stands-left s before c.args.bytes.now t.from left c.args.tail.now _ (c.settle-settled.ensures.waits s before c.args.tail.now base short waits)
    (InTurn-end before c.args.bytes.now t.from left c.args.tail.now end c.in-None.is)
