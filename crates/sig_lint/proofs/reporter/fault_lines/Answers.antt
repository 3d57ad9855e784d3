use Rattle.std.proofs.Common.{◌≡◌, ◌+◌, ◌∷◌, ◌++◌, [], subst, sym, take}
use Rattle.std.proofs.lemmas.List.{take_all, take_more}
use Rattle.sig_lint.specs.Reports.{AreFaultLines}
use Rattle.sig_lint.proofs.ReportLemmas.{lines-more, lines-none}
use Rattle.sig_lint.proofs.reporter.fault_lines.Goals as goal

pub loop-fault-init : goal.loop-fault-init
loop-fault-init c = rw c.new-text.ensures.items lines-none

pub loop-fault-preserved : goal.loop-fault-preserved
loop-fault-preserved c =
    let at = c.loop-fault in
    let fault = c.fault-item.result in
    let more : take (at.fault-index + 1) c.args.faults.now ≡ take at.fault-index c.args.faults.now ++ fault ∷ [] =
    subst (λ f. take (at.fault-index + 1) c.args.faults.now ≡ take at.fault-index c.args.faults.now ++ f ∷ []) (sym c.fault-item.is)
    (take_more c.args.faults.now at.fault-index fault c.loop-fault-test.true) in
    rw more (lines-more (take at.fault-index c.args.faults.now) fault c.line.result at.text.items c.put_fault.new.out.items at.invariant
    c.in_ok-put_fault.ensures)

pub returns : goal.returns
returns c = subst (λ faults. AreFaultLines faults c.loop-fault.text.items) (take_all c.loop-fault.fault-index c.args.faults.now c.loop-fault-test.false)
    c.loop-fault.invariant
