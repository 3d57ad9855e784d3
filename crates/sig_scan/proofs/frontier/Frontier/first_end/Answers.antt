use Rattle.sig_scan.proofs.Common.{◌-◌, drop, length, take, arith, take_rest}
use Rattle.sig_scan.proofs.WindowLemmas.{first_end_found, first_end_none}
use Rattle.sig_scan.proofs.frontier.Frontier.first_end.Goals as goal

pub returns-in_err-end-clause-end : goal.returns-in_err-end-clause-end
returns-in_err-end-clause-end c =
    let file = c.args.bytes.now in
    let from = c.args.entries.start in
    rw c.from_residual.ensures (
    first_end_none c.args.items.now file (take (length file - from) (drop from file))
    from c.args.entries.end c.min-count.result c.args.least c.saturating_sub-2.result
    (take_rest file from) (omega arith) (omega arith) (omega arith) c.in_err-end.ensures
    )

pub returns-clause-end : goal.returns-clause-end
returns-clause-end c =
    let file = c.args.bytes.now in
    let from = c.args.entries.start in
    first_end_found c.args.items.now file (take (length file - from) (drop from file))
    from c.args.entries.end c.min-count.result c.args.least c.saturating_sub-2.result c.in_ok-end.end
    (take_rest file from) (omega arith) (omega arith) (omega arith) c.in_ok-end.ensures
